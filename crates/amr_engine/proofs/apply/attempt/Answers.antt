use Rattle.std.proofs.Common.{ap, subst}
use Rattle.amr_engine.specs.State.Kept.{before_open_record}
use Rattle.amr_engine.specs.Applied.{IsDone}
use Rattle.amr_engine.specs.Kept.{IsLightIfDone}
use Rattle.amr_engine.specs.declared.outcome.Outcome.TheVariants.{Accepted}
use Rattle.amr_engine.proofs.Settling.{settled_done, settled_undone, put_back_whole}
use Rattle.amr_engine.proofs.apply.attempt.Goals as goal

pub returns-in_ok-notes-in-Ok-clause-settled : goal.returns-in_ok-notes-in-Ok-clause-settled
returns-in_ok-notes-in-Ok-clause-settled c =
    let left = c.apply_in_order.new.store in
    let done = subst (IsDone c.args.store.now.state c.args.event.now left.state) c.in-Ok.is c.in_ok-done.ensures.done in
    let light = subst (IsLightIfDone c.args.store.now c.args.event.now left) c.in-Ok.is c.in_ok-done.ensures.light in
    settled_done c.args.store.now c.args.event.now left (Accepted c.in-Ok.done.moves c.in_ok-notes-in-Ok.notes c.in-Ok.done.skipped) c.requires.empty tt done.state c.in_ok-done.ensures.kept light

pub returns-in-Err-clause-settled : goal.returns-in-Err-clause-settled
returns-in-Err-clause-settled c =
    let tried = c.apply_in_order.new.store in
    let done = subst (IsDone c.args.store.now.state c.args.event.now tried.state) c.in-Err.is c.in_ok-done.ensures.done in
    settled_undone c.args.store.now c.args.event.now tried c.undo_open.new.self c.in-Err.reason c.requires.empty done.state c.in_ok-done.ensures.kept c.undo_open.ensures

pub returns-in-Err-clause-kept : goal.returns-in-Err-clause-kept
returns-in-Err-clause-kept c =
    ap before_open_record (put_back_whole c.args.store.now c.apply_in_order.new.store c.undo_open.new.self c.requires.empty c.in_ok-done.ensures.kept c.undo_open.ensures)
