use Rattle.std.proofs.Common.{Some, ap, ◌∙◌}
use Rattle.amr_engine.specs.declared.state.change.Change.TheVariants.{OfAlert}
use Rattle.amr_engine.specs.State.Kept.{before_open_record}
use Rattle.amr_engine.proofs.StateLemmas.Soundness.{kept_put, undone_put}
use Rattle.amr_engine.proofs.state.store.Store.put_alert.Goals as goal

pub invariant_of-self-2 : goal.invariant_of-self-2
invariant_of-self-2 c =
    kept_put c.self.inside c.make_room.new.tables c.enter.new.tables c.make_room.new.journal c.enter.new.journal (OfAlert c.in_ok-clone.field-0 (Some c.in_ok-clone-2.field-0)) c.make_room.ensures.roomier tt
    c.enter.ensures.state c.enter.ensures.entered c.self.invariant c.in_ok-number.number c.in_ok-number.ensures.number c.enter.ensures.places

pub returns-clause-kept : goal.returns-clause-kept
returns-clause-kept c =
    undone_put c.self.inside c.make_room.new.tables c.enter.new.tables c.make_room.new.journal c.enter.new.journal (OfAlert c.in_ok-clone.field-0 (Some c.in_ok-clone-2.field-0)) c.make_room.ensures.roomier tt
    c.enter.ensures.state c.enter.ensures.entered ∙ ap before_open_record c.self.view_is
