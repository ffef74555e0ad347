use Rattle.std.proofs.Common.{◌≡◌, take}
use Rattle.amr_engine.proofs.stages.or_copied.Given as goal

abbrev pub invariant-loop-labels : goal.invariant-loop-labels
invariant-loop-labels l = l.copied.items ≡ take l.labels-index l.members
