use Rattle.std.proofs.Common.{◌≡◌, length}
use Rattle.amr_tables.specs.declared.schedule.NumberedMoment.{NumberedMoment}
use Rattle.amr_tables.specs.Earliest.{StandsIn, AreKept}
use Rattle.amr_tables.proofs.earliest.Earliest.drop_front.Given as goal

abbrev pub invariant-loop-self : goal.invariant-loop-self
invariant-loop-self g l = record {
  rest : l.self.rest ≡ l.initial.self.rest;
  queue : (s : NumberedMoment) → StandsIn l.self.queue s → StandsIn l.initial.self.queue s;
  kept : AreKept (g.S.Schedule.rank l.schedule) (g.S.Schedule.moments l.schedule) l.initial.self → AreKept (g.S.Schedule.rank l.schedule) (g.S.Schedule.moments l.schedule) l.self;
}

abbrev pub decreases-loop-self : goal.decreases-loop-self
decreases-loop-self g l = length l.self.queue
