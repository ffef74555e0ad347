use Rattle.std.proofs.Common.{length, sym, ap, ◌∙◌}
use Rattle.amr_tables.specs.Heap.{Heap, standing_at}
use Rattle.amr_tables.proofs.Heaping.{placed_more, standing_more}
use Rattle.amr_tables.proofs.heap.Heap.add.Goals as goal

pub invariant_of-self-2 : goal.invariant_of-self-2
invariant_of-self-2 c =
    rw (c.push_reserved.ensures.items, c.reserve.ensures.items, c.in_ok-push.ensures.items) (placed_more c.self.invariant (record { moment = 0; number = c.room-number.result }) (c.room-number.ensures ∙ sym (ap (λ (h : Heap). length h.entries) c.self.view_is)))

pub returns-clause-same : goal.returns-clause-same
returns-clause-same c = λ place. rw (c.push_reserved.ensures.items, c.reserve.ensures.items) (standing_more c.self.invariant (record { moment = 0; number = c.room-number.result }) place ∙ ap (λ (h : Heap). standing_at h place) c.self.view_is)
