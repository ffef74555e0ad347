use Rattle.std.proofs.Common.{◌∙◌, refl, subst}
use Rattle.amr_tables.specs.Earliest.{Earliest, IsHeld, IsOutdated}
use Rattle.amr_tables.proofs.Firsts.{held_shorter, first_leaves}
use Rattle.amr_tables.proofs.earliest.Earliest.drop_first.Goals as goal

pub loop-self-preserved : goal.loop-self-preserved
loop-self-preserved g c =
    let e : Earliest = record { queue = c.loop-self.self-inside.queue.items; rest = c.loop-self.self-inside.rest } in
    let u : Earliest = record { queue = c.loop-self.self-inside.queue.items; rest = c.remove_first.new.self } in
    let moments = g.S.Schedule.moments c.args.schedule.now in
    record {
      queue = c.loop-self.invariant.queue;
      room = c.remove_first.ensures.room ∙ c.loop-self.invariant.room;
      held = λ n held. c.loop-self.invariant.held n (held_shorter e u (λ s is. (c.remove_first.ensures.removed.only s is).1) (λ s h. h) n held);
      kept = first_leaves moments (g.S.Schedule.rank c.args.schedule.now) e u refl c.remove_first.ensures.removed c.remove_first.ensures.kept (subst (IsOutdated moments) c.first.ensures (c.is_outdated.ensures.outdated c.loop-self-test.true)) c.loop-self.invariant.kept;
    }

pub returns-clause-held : goal.returns-clause-held
returns-clause-held g c = λ n held. subst (λ e. IsHeld e n) c.self.view_is (c.loop-self.invariant.held n held)
