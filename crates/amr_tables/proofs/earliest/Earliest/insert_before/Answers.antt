use Rattle.std.proofs.Common.{ap, subst}
use Rattle.amr_tables.specs.Heap.{IsInserted}
use Rattle.amr_tables.specs.Earliest.{Earliest}
use Rattle.amr_tables.proofs.Queueing.{kept_rest, held_rest}
use Rattle.amr_tables.proofs.earliest.Earliest.insert_before.Goals as goal

pub returns-else-has_room-clause-kept : goal.returns-else-has_room-clause-kept
returns-else-has_room-clause-kept g c =
    let s = c.args.standing in
    kept_rest (g.S.Schedule.moments c.args.schedule.now) s c.requires.current c.args.self.now (record { queue = c.self.inside.queue.items; rest = c.insert.new.self }) (ap (λ (x : Earliest). x.queue) c.self.view_is)
    (subst (λ (x : Earliest). IsInserted s x.rest c.insert.new.self) c.self.view_is c.insert.ensures.inserted) (g.S.Schedule.rank c.args.schedule.now) c.insert.ensures.kept c.requires.kept

pub returns-else-has_room-clause-held : goal.returns-else-has_room-clause-held
returns-else-has_room-clause-held g c =
    let s = c.args.standing in
    held_rest (g.S.Schedule.moments c.args.schedule.now) s c.requires.current c.args.self.now (record { queue = c.self.inside.queue.items; rest = c.insert.new.self }) (ap (λ (x : Earliest). x.queue) c.self.view_is)
    (subst (λ (x : Earliest). IsInserted s x.rest c.insert.new.self) c.self.view_is c.insert.ensures.inserted)
