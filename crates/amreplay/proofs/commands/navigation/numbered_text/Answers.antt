use Rattle.std.proofs.Common.{◌≡◌, ◌+◌, drop, Some, ap, sym, ◌∙◌, ◌++◌, arith, slice_get, string_bytes}
use Rattle.amr_engine.specs.Outcomes.{outcome_view}
use Rattle.amreplay.specs.Lines.Printed.{event_lines}
use Rattle.amreplay.proofs.CommandsLemmas.EventsPassed.{numbered_more, rest_item}
use Rattle.amreplay.proofs.commands.navigation.numbered_text.Goals as goal

pub loop-outcome-preserved : goal.loop-outcome-preserved
loop-outcome-preserved c =
    let n = c.args.passed in
    let i = c.loop-outcome.outcome-index in
    let o = c.outcome-item.result in
    let e = c.event-event.result.now in
    let events = c.args.session.now.events in
    let number : c.loop-outcome.index + 1 ≡ n + 1 + i = omega (arith, c.loop-outcome.invariant.0) in
    let at : slice_get events (n + i) ≡ Some e = sym (ap (slice_get events) c.loop-outcome.invariant.0) ∙ c.event-event.ensures in
    let line = ap (λ k. event_lines k e (outcome_view o)) number in (
      omega (arith, c.loop-outcome.invariant.0),
      c.in_ok-push_event_lines.ensures
          ∙ ap (λ t. string_bytes c.loop-outcome.text ++ t) line
          ∙ ap (λ t. t ++ event_lines (n + 1 + i) e (outcome_view o)) c.loop-outcome.invariant.1
          ∙ sym (numbered_more (n + 1) i (drop n events) c.args.outcomes.now e o c.loop-outcome-test.true c.outcome-item.is (rest_item events n i e at)),
    )
