use Rattle.std.proofs.Common.{ap, ◌∙◌, arith, ◌-◌}
use Rattle.amr_replay.specs.Session.{at_cursor}
use Rattle.amr_replay.proofs.Positions.{at_before}
use Rattle.amr_replay.proofs.Recorded.{records_last}
use Rattle.amr_replay.proofs.session.Session.unstep.Goals as goal

pub invariant_of-self : goal.invariant_of-self
invariant_of-self c =
    let a = c.self.inside in
    let some = ap (λ v. v.cursor) c.self.view_is in
    record {
      view = at_before a.config a.script.version a.script.events a.cursor (a.cursor - 1) a.engine.state _ a.engine.past _ (omega arith) c.self.invariant.within c.self.invariant.view c.undo_last.ensures.past;
      within = omega (arith, c.self.invariant.within);
      records = records_last a.config a.script.events a.cursor (a.cursor - 1) a.engine.records _ c.undo_last.ensures.records.0 (omega arith) c.self.invariant.within c.self.invariant.records c.undo_last.ensures.records.1;
      quiet = c.self.invariant.quiet;
    }

pub returns : goal.returns
returns c = (invariant_of-self c).view ∙ ap (λ v. at_cursor v.config v.version v.events (v.cursor - 1)) c.self.view_is
