use Rattle.std.proofs.Common.{◌∙◌, ap, refl, sym, take}
use Rattle.std.proofs.KnownBytes.{Appends-nil}
use Rattle.std.proofs.lemmas.Result.{err_from_is_err_and}
use Rattle.amr_engine.specs.Events.{outcome_of, after_event, run_of, without_notifications}
use Rattle.amr_engine.proofs.Unnotified.{outcome_without, after_without}
use Rattle.amr_replay.proofs.Positions.{run_more}
use Rattle.amreplay.specs.Program.Runs.{run_lines}
use Rattle.amreplay.proofs.ProgramLemmas.RunLines.{Appends-next, RunLeaves-event}
use Rattle.amreplay.proofs.program.run.write_events.Goals as goal

pub loop-number-init : goal.loop-number-init
unfolding run_lines
loop-number-init g c = record { state = c.requires; written = Appends-nil _; failed = refl }

pub loop-number-preserved : goal.loop-number-preserved
loop-number-preserved g c =
    let e = c.event-event.result.now in
    let before = run_of c.args.engine.now.state.config (take c.loop-number.number c.args.script.now.events) in
    record {
      state = c.in_ok-pass_event.ensures.passed ∙ ap (λ s. without_notifications (after_event s e)) c.loop-number.invariant.state ∙ after_without before e
          ∙ ap without_notifications (sym (run_more c.args.engine.now.state.config c.args.script.now.events c.loop-number.number e c.event-event.ensures));
      written = Appends-next _ _ _ _ _ _ e _ c.event-event.ensures (ap (λ s. outcome_of s e) c.loop-number.invariant.state ∙ outcome_without before e) c.loop-number.invariant.written c.in_ok-pass_event.ensures.left;
      failed = c.in_ok-pass_event.ensures.ended ∙ c.loop-number.invariant.failed;
    }

pub returns-in_err-pass_event-clause-left : goal.returns-in_err-pass_event-clause-left
returns-in_err-pass_event-clause-left g c =
    let e = c.event-event.result.now in
    let before = run_of c.args.engine.now.state.config (take c.loop-number.number c.args.script.now.events) in
    let left = RunLeaves-event _ _ _ _ _ _ e _ c.event-event.ensures (ap (λ s. outcome_of s e) c.loop-number.invariant.state ∙ outcome_without before e) c.loop-number.invariant.written _ c.in_err-pass_event.ensures.left in
    let p = err_from_is_err_and c.from_residual.result c.from_residual.ensures.1 in
    rw (p.1, p.2) left
