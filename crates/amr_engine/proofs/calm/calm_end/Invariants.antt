use Rattle.std.proofs.Common.{ℕ, ◌≤◌, ◌<◌, ◌+◌}
use Rattle.amr_engine.proofs.Calming.{AreQuiet}
use Rattle.amr_engine.proofs.calm.calm_end.Given as goal

-- the groups that were looked at are quiet where they are due
abbrev pub invariant-loop-number : goal.invariant-loop-number
invariant-loop-number l = record {
  within : l.end ≤ l.fn.at + 1;
  quiet : (last : ℕ) → last < l.end → AreQuiet last l.store.state l.timers l.number;
}
