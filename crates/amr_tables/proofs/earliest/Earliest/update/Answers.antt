use Rattle.std.proofs.Common.{inl, None, sym, subst, ◌∙◌}
use Rattle.amr_tables.specs.Heap.{IsInHeap}
use Rattle.amr_tables.specs.Earliest.{IsHeld}
use Rattle.amr_tables.proofs.Firsts.{changed_nothing, without, held_shorter}
use Rattle.amr_tables.proofs.earliest.Earliest.update.Goals as goal
use Rattle.amr_tables.proofs.earliest.Earliest.update.Goals.{in-Some, in_default}

pub drop_first-requires : goal.drop_first-requires
drop_first-requires g c =
    let moments = g.S.Schedule.moments c.args.schedule.now in
    let n = c.args.number in
    c.drop_front.ensures.kept (elim c.match-moment.branch [
      | in-Some w ↦ rw w.self-is w.insert.ensures.kept
      | in_default w ↦ rw (w.self-is, ← changed_nothing moments n None (sym c.moment-moment.ensures ∙ w.in_default.is)) (without moments n _ c.args.former c.args.self.now c.requires.kept.kept)
    ])

pub returns-clause-held : goal.returns-clause-held
returns-clause-held g c = λ n held.
    let before : IsHeld c.match-moment.self n = held_shorter c.match-moment.self c.drop_front.new.self (λ s. subst (λ h. IsInHeap h s) c.drop_front.ensures.rest) c.drop_front.ensures.queue n (c.drop_first.ensures.held n held) in
    elim c.match-moment.branch [
      | in-Some w ↦ w.insert.ensures.held n (subst (λ x. IsHeld x n) w.self-is before)
      | in_default w ↦ inl (subst (λ x. IsHeld x n) w.self-is before)
    ]
