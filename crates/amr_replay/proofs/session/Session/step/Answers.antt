use Rattle.std.proofs.Common.{ap, ◌∙◌, subst, arith, ◌+◌}
use Rattle.amr_engine.specs.QuietMoves.{AreQuietMoves}
use Rattle.amr_replay.specs.Session.{View, at_cursor}
use Rattle.amr_replay.proofs.Positions.{at_next}
use Rattle.amr_replay.proofs.Recorded.{records_next}
use Rattle.amr_replay.proofs.session.Session.step.Goals as goal

pub invariant_of-self-2 : goal.invariant_of-self-2
invariant_of-self-2 c =
    let a = c.self.inside in
    record {
      view = at_next a.config a.script.version a.script.events a.cursor a.engine.state _ a.engine.past _ c.event-event.result.now c.self.invariant.view c.event-event.ensures c.in_ok-outcome.ensures.state c.in_ok-outcome.ensures.past;
      within = omega arith;
      records = records_next a.config a.script.events a.cursor a.engine _ c.event-event.result.now c.in_ok-outcome.outcome c.in_ok-outcome.ensures.record_kept.0 c.self.invariant.records (ap (λ (v : View). v.state) c.self.invariant.view) c.event-event.ensures c.in_ok-outcome.ensures.outcome c.in_ok-outcome.ensures.state c.in_ok-outcome.ensures.record_kept.1;
      quiet = c.put.ensures a.config a.script.events (c.take-quiet.ensures.left a.config a.script.events c.self.invariant.quiet)
          (subst (AreQuietMoves c.apply_noting-applied.new.quiet_moves) (ap (λ (v : View). v.state) c.self.invariant.view) c.apply_noting-applied.ensures.quiet);
    }

pub returns-clause-ok : goal.returns-clause-ok
returns-clause-ok c = (invariant_of-self-2 c).view ∙ ap (λ v. at_cursor v.config v.version v.events (v.cursor + 1)) c.self.view_is
