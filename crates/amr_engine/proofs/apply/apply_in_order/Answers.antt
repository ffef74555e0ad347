use Rattle.std.proofs.Common.{nat_lt, lt-ltb, ◌≡◌, ◌<◌, false, length, sym, ap, ◌∙◌, arith}
use Rattle.std.proofs.lemmas.Bool.Decides.{nat_tests}
use Rattle.amr_events.specs.Actions.Events.{is_label}
use Rattle.amr_engine.proofs.Endings.{label_accepted, past_refused, refused_by_act, refused_by_moves, done_after_moves}
use Rattle.amr_engine.proofs.Growing.{light_done}
use Rattle.amr_engine.proofs.apply.apply_in_order.Goals as goal

pub returns-then-is_label-clause-done : goal.returns-then-is_label-clause-done
returns-then-is_label-clause-done c =
    label_accepted c.args.store.now.state c.args.event.now _ (ap is_label (sym c.act-act.ensures) ∙ sym c.if-is_label.ensures) c.new-skipped.ensures

pub returns-then-nanoseconds-clause-done : goal.returns-then-nanoseconds-clause-done
returns-then-nanoseconds-clause-done c =
    let before : c.args.event.now.at < c.args.store.now.state.moment = omega arith in
    past_refused c.args.store.now.state c.args.event.now (ap is_label (sym c.act-act.ensures) ∙ sym c.if-is_label.ensures) (lt-ltb c.args.event.now.at c.args.store.now.state.moment before)

pub returns-in-Err-clause-done : goal.returns-in-Err-clause-done
returns-in-Err-clause-done c =
    let not_past : nat_lt c.at-at.result c.args.store.now.state.moment ≡ false = grind (arith, nat_tests) in
    refused_by_act c.args.store.now.state c.args.event.now c.at-at.result _ c.at-at.ensures.value c.act-act.ensures (sym c.if-is_label.ensures) not_past c.in-Err.reason (rw c.in-Err.is at c.in_ok-reason.ensures)

pub returns-in-None-clause-done : goal.returns-in-None-clause-done
returns-in-None-clause-done c =
    let not_past : nat_lt c.at-at.result c.args.store.now.state.moment ≡ false = grind (arith, nat_tests) in
    refused_by_moves c.args.store.now.state c.args.event.now c.at-at.result _ c.at-at.ensures.value c.act-act.ensures (sym c.if-is_label.ensures) not_past c.in-Ok.prepared (rw c.in-Ok.is at c.in_ok-reason.ensures) (rw c.in-None.is at c.in_ok-advance_to-in-Ok.ensures.made)

pub returns-in_ok-skipped-in-Some-clause-done : goal.returns-in_ok-skipped-in-Some-clause-done
returns-in_ok-skipped-in-Some-clause-done c =
    let not_past : nat_lt c.at-at.result c.args.store.now.state.moment ≡ false = grind (arith, nat_tests) in
    done_after_moves c.args.store.now.state c.args.event.now c.at-at.result _ c.at-at.ensures.value c.act-act.ensures (sym c.if-is_label.ensures) not_past c.in-Ok.prepared c.in-Some.moves c.advance_to.new.store.state c.perform.new.store.state _
    (rw c.in-Ok.is at c.in_ok-reason.ensures) (rw c.in-Some.is at c.in_ok-advance_to-in-Ok.ensures.made) c.in_ok-skipped-in-Some.ensures.done c.in_ok-skipped-in-Some.ensures.skipped

pub returns-in_ok-skipped-in-Some-clause-light : goal.returns-in_ok-skipped-in-Some-clause-light
returns-in_ok-skipped-in-Some-clause-light c =
    light_done c.args.store.now.state c.args.event.now c.at-at.result _ c.at-at.ensures.value c.act-act.ensures c.in-Ok.prepared c.in-Some.moves c.advance_to.new.store.state c.perform.new.store.state
    (length c.args.store.now.current) (length c.advance_to.new.store.current) (length c.perform.new.store.current)
    (sym c.if-is_label.ensures) (rw c.in-Ok.is at c.in_ok-reason.ensures) (rw c.in-Some.is at c.in_ok-advance_to-in-Ok.ensures.made) c.in_ok-advance_to-in-Ok.ensures.grown c.in_ok-skipped-in-Some.ensures.grown
