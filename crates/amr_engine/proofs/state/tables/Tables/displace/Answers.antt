use Rattle.std.proofs.Common.{IsTrue, subst, sym, ap}
use Rattle.amr_engine.specs.declared.state.change.Change.TheVariants.{OfLog}
use Rattle.amr_engine.specs.State.Stored.{shown_by}
use Rattle.amr_engine.proofs.state.tables.Tables.displace.Goals as goal

pub swap_at-requires : goal.swap_at-requires
swap_at-requires c = (c.in-OfAlert.field-0, rw c.in-OfAlert.is at c.requires)

pub swap_member-requires : goal.swap_member-requires
swap_member-requires c = (c.in-OfMember.field-0, rw c.in-OfMember.is at c.requires)

pub swap_timer-requires : goal.swap_timer-requires
swap_timer-requires c = (c.in-OfTimer.field-0, rw c.in-OfTimer.is at c.requires)

pub swap_at-requires-in-OfLog : goal.swap_at-requires-in-OfLog
swap_at-requires-in-OfLog c = (c.in-OfLog.field-0, rw c.in-OfLog.is at c.requires)

pub returns-in-OfLog-clause-state : goal.returns-in-OfLog-clause-state
returns-in-OfLog-clause-state c = rw c.in-OfLog.is (
    λ i. record (shown_by c.args.self.now) { log = c.swap_at-in-OfLog.ensures.shown c.in-OfLog.field-0 (rw c.in-OfLog.is at c.requires) i })

pub returns-in-OfLog-clause-back : goal.returns-in-OfLog-clause-back
returns-in-OfLog-clause-back c = rw c.in-OfLog.is (
    ap (λ value. OfLog c.in-OfLog.field-0 value) (c.swap_at-in-OfLog.ensures.former c.in-OfLog.field-0 (rw c.in-OfLog.is at c.requires)))

pub returns-in-OfLog-clause-places : goal.returns-in-OfLog-clause-places
returns-in-OfLog-clause-places c = rw c.in-OfLog.is (record {
  alerts = λ k h. h;
  silences = λ k h. h;
  placements = λ k h. h;
  timers = λ k h. h;
  log = λ k h. subst IsTrue (sym (c.swap_at-in-OfLog.ensures.places k)) h;
})
