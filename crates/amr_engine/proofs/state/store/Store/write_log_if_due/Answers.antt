use Rattle.std.proofs.Common.{option_copied, Some, sym, ap, ◌∙◌}
use Rattle.amr_labels.specs.Map.{get}
use Rattle.amr_tables.specs.Numbered.{number_of}
use Rattle.amr_engine.specs.declared.state.change.Change.TheVariants.{OfLog}
use Rattle.amr_engine.specs.State.State.{log_key_cmp}
use Rattle.amr_engine.specs.State.Kept.{Kept, before_open_record}
use Rattle.amr_engine.specs.State.Logged.{is_due}
use Rattle.amr_engine.proofs.StateLemmas.Soundness.{found, kept_put, undone_put}
use Rattle.amr_engine.proofs.state.store.Store.write_log_if_due.Goals as goal

pub make_room-requires : goal.make_room-requires
make_room-requires c =
    found _ _ (ap (number_of log_key_cmp c.self.inside.tables.log) c.in_ok-clone.ensures.cases ∙ sym c.look_up_number-number.ensures.number)

pub invariant_of-self-2 : goal.invariant_of-self-2
invariant_of-self-2 c =
    kept_put c.self.inside c.make_room.new.tables c.enter.new.tables c.make_room.new.journal c.enter.new.journal (OfLog c.in_ok-clone.field-0 (Some c.in_ok-clone-2.field-0)) c.make_room.ensures.roomier tt
    c.enter.ensures.state c.enter.ensures.entered c.self.invariant c.in_ok-number.number c.in_ok-number.ensures.number c.enter.ensures.places

pub returns-clause-kept : goal.returns-clause-kept
returns-clause-kept c =
    undone_put c.self.inside c.make_room.new.tables c.enter.new.tables c.make_room.new.journal c.enter.new.journal (OfLog c.in_ok-clone.field-0 (Some c.in_ok-clone-2.field-0)) c.make_room.ensures.roomier tt
    c.enter.ensures.state c.enter.ensures.entered ∙ ap before_open_record c.self.view_is

pub returns-clause-due : goal.returns-clause-due
returns-clause-due c =
    sym c.if-not-is_due.false ∙ c.needs_update-is_due.ensures
    ∙ ap (λ entry. is_due (option_copied c.look_up_number-number.result.1) entry c.args.send_resolved c.args.repeat_interval) c.get-written.ensures
    ∙ ap (λ former. is_due former c.args.entry.now c.args.send_resolved c.args.repeat_interval) c.look_up_number-number.ensures.value
    ∙ ap (λ (v : Kept). is_due (get v.state.log c.args.key.now) c.args.entry.now c.args.send_resolved c.args.repeat_interval) c.self.view_is
