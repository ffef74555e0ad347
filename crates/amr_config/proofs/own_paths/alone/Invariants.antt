use Rattle.amr_config.specs.Paths.{AreAlone}
use Rattle.amr_config.proofs.own_paths.alone.Given as goal

abbrev pub invariant-loop-index : goal.invariant-loop-index
invariant-loop-index l = AreAlone l.numbers l.index l.alone.items
