use Rattle.std.proofs.Common.{◌≤◌, ℕ, length}
use Rattle.amr_events.specs.Posted.{alert_of}
use Rattle.amr_events.proofs.Stating.{ItemsLeft}
use Rattle.amr_events.proofs.post_line.usual_alerts.Given as goal

abbrev pub invariant-loop-cache : goal.invariant-loop-cache
invariant-loop-cache l = record {
  left : (depth : ℕ) → 2 ≤ depth → ItemsLeft alert_of depth l.initial.reader l.reader l.alerts.items;
  shorter : length l.reader ≤ length l.initial.reader;
}

abbrev pub decreases-loop-cache : goal.decreases-loop-cache
decreases-loop-cache l = length l.reader
