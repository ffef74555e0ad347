use Rattle.std.proofs.Common.{Some, refl, ap, ◌∙◌}
use Rattle.amr_engine.specs.declared.state.change.Change.TheVariants.{OfMember}
use Rattle.amr_engine.specs.State.Kept.{before_open_record}
use Rattle.amr_engine.proofs.StateLemmas.Soundness.{placed_first, kept_roomier, kept_put, undone_put}
use Rattle.amr_engine.proofs.state.store.Store.put_member.Goals as goal

pub invariant_of-self : goal.invariant_of-self
invariant_of-self c =
    let placed = c.place_in_group.ensures in
    kept_roomier c.self.inside c.place_in_group.new.self c.self.inside.journal c.self.invariant
    (record { values = placed.values; places = placed.places; closed = refl; current = refl; room = refl })

pub invariant_of-self-2 : goal.invariant_of-self-2
invariant_of-self-2 c =
    let a = c.self.inside in
    let placed = c.place_in_group.ensures in
    kept_put a c.make_room.new.tables c.enter.new.tables c.make_room.new.journal c.enter.new.journal (OfMember c.args.member (Some c.args.alert))
    (placed_first a.tables c.place_in_group.new.self c.make_room.new.tables a.journal c.make_room.new.journal placed.values placed.places c.make_room.ensures.roomier) tt
    c.enter.ensures.state c.enter.ensures.entered c.self.invariant c.in_ok-number-2.number c.in_ok-number-2.ensures.number c.enter.ensures.places

pub returns-clause-kept : goal.returns-clause-kept
returns-clause-kept c =
    let a = c.self.inside in
    let placed = c.place_in_group.ensures in
    undone_put a c.make_room.new.tables c.enter.new.tables c.make_room.new.journal c.enter.new.journal (OfMember c.args.member (Some c.args.alert))
    (placed_first a.tables c.place_in_group.new.self c.make_room.new.tables a.journal c.make_room.new.journal placed.values placed.places c.make_room.ensures.roomier) tt
    c.enter.ensures.state c.enter.ensures.entered ∙ ap before_open_record c.self.view_is
