use Rattle.std.proofs.Common.{◌≤◌, ℕ, length}
use Rattle.amr_labels.specs.Lent.{lent_texts}
use Rattle.amr_events.proofs.Stating.{MembersLeft}
use Rattle.amr_events.proofs.Pairs.{text_members, Ascend}
use Rattle.amr_events.proofs.posted_tokens.usual_texts.Given as goal

abbrev pub invariant-loop-texts : goal.invariant-loop-texts
invariant-loop-texts l = record {
  left : (depth : ℕ) → MembersLeft depth l.initial.reader l.reader (text_members (lent_texts l.texts.items));
  ascend : Ascend (lent_texts l.texts.items);
  shorter : length l.reader ≤ length l.initial.reader;
}

abbrev pub decreases-loop-texts : goal.decreases-loop-texts
decreases-loop-texts l = length l.reader
