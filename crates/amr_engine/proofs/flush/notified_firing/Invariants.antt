use Rattle.std.proofs.Common.{◌≡◌, ◌++◌, map, drop}
use Rattle.amr_engine.specs.Flush.{firing_of, notified_firing}
use Rattle.amr_engine.proofs.flush.notified_firing.Given as goal

-- what was found so far, and what is left to find, are all
abbrev pub invariant-loop-labels : goal.invariant-loop-labels
invariant-loop-labels l = l.notified.items ++ map notified_firing (firing_of l.at (drop l.labels-index l.members)) ≡ map notified_firing (firing_of l.at l.members)
