use Rattle.std.proofs.Common.{◌≡◌, ◌+◌, ◌++◌, ap, ◌∙◌, arith, map, slice_get}
use Rattle.amr_engine.specs.Events.{outcome_of}
use Rattle.amr_engine.specs.Outcomes.{outcome_view}
use Rattle.amr_replay.specs.Session.{View, at_cursor, state_at, outcomes_passed}
use Rattle.amr_replay.proofs.Positions.{item}
use Rattle.amr_replay.proofs.Passed.{told_more}
use Rattle.amr_replay.proofs.session.Session.forward.Goals as goal

pub loop-self-preserved : goal.loop-self-preserved
loop-self-preserved c =
    let config = c.args.self.now.config in
    let version = c.args.self.now.version in
    let es = c.args.self.now.events in
    let n = c.loop-self.self.cursor in
    let e = item es n (omega arith) in
    let here : c.loop-self.self ≡ at_cursor config version es n = c.cursor.ensures.view ∙ (λ i. at_cursor (c.loop-self.invariant.config i) (c.loop-self.invariant.version i) (c.loop-self.invariant.events i) n) in
    let next : c.step.new.self ≡ at_cursor config version es (n + 1) = c.in-Ok.ensures.ok ∙ (λ i. at_cursor (c.loop-self.invariant.config i) (c.loop-self.invariant.version i) (c.loop-self.invariant.events i) (n + 1)) in
    let one_on : c.step.new.self.cursor ≡ n + 1 = ap (λ (w : View). w.cursor) next in
    let is : outcome_view c.in-Ok.outcome ≡ outcome_of (state_at config es n) e.0 = c.in-Ok.ensures.outcome e.0 (ap (λ x. slice_get x n) c.loop-self.invariant.events ∙ e.1) ∙ ap (λ (w : View). outcome_of w.state e.0) here in
    record {
      config = ap (λ (w : View). w.config) next;
      version = ap (λ (w : View). w.version) next;
      events = ap (λ (w : View). w.events) next;
      from = omega (arith, one_on);
      to = omega (arith, one_on);
      told = (λ i. map outcome_view (c.in_ok-push-in-Ok.ensures.items i) ++ outcomes_passed config es (one_on i) c.args.to)
          ∙ told_more config es n c.args.to e.0 c.loop-self.outcomes.items c.in-Ok.outcome e.1 (omega arith) is
          ∙ c.loop-self.invariant.told;
    }
