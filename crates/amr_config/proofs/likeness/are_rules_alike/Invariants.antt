use Rattle.std.proofs.Common.{◌≡◌, map, take}
use Rattle.amr_config.specs.Alike.{sides}
use Rattle.amr_config.proofs.likeness.are_rules_alike.Given as goal

abbrev pub invariant-loop-index : goal.invariant-loop-index
invariant-loop-index l = map sides (take l.index l.rules) ≡ map sides (take l.index l.others)
