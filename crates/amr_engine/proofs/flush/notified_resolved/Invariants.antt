use Rattle.std.proofs.Common.{◌≡◌, ◌++◌, map, drop}
use Rattle.amr_engine.specs.Flush.{resolved_of, notified_resolved}
use Rattle.amr_engine.proofs.flush.notified_resolved.Given as goal

-- what was found so far, and what is left to find, are all
abbrev pub invariant-loop-labels : goal.invariant-loop-labels
invariant-loop-labels l = l.notified.items ++ map notified_resolved (resolved_of l.at (drop l.labels-index l.members)) ≡ map notified_resolved (resolved_of l.at l.members)
