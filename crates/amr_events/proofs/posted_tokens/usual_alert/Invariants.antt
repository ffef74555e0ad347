use Rattle.std.proofs.Common.{◌≤◌, ℕ, length}
use Rattle.serde_json.specs.Data.{Members}
use Rattle.amr_events.specs.Tokens.{IsDraft}
use Rattle.amr_events.proofs.Stating.{MembersLeft}
use Rattle.amr_events.proofs.posted_tokens.usual_alert.Given as goal

abbrev pub invariant-loop-draft : goal.invariant-loop-draft
invariant-loop-draft l = record {
  read : (depth : ℕ) → 1 ≤ depth → (found : Members) × MembersLeft depth l.initial.reader l.reader found × IsDraft found l.draft;
  shorter : length l.reader ≤ length l.initial.reader;
}

abbrev pub decreases-loop-draft : goal.decreases-loop-draft
decreases-loop-draft l = length l.reader
