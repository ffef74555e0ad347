use Rattle.std.proofs.Common.{◌≡◌, ℕ, Option, length}
use Rattle.std.specs.declared.cmp.Ordering.{Ordering}
use Rattle.amr_tables.specs.declared.schedule.NumberedMoment.{NumberedMoment}
use Rattle.amr_tables.specs.Earliest.{StandsIn, AreAmong, AreKept}
use Rattle.amr_tables.proofs.earliest.Earliest.drop_last.Given as goal

abbrev pub invariant-loop-self : goal.invariant-loop-self
invariant-loop-self g l = record {
  rest : l.self.rest ≡ l.initial.self.rest;
  queue : (s : NumberedMoment) → StandsIn l.self.queue s → StandsIn l.initial.self.queue s;
  kept : (rank : ℕ → ℕ → Ordering) (moments : ℕ → Option ℕ) → AreAmong moments (g.S.Schedule.moments l.schedule) → AreKept rank moments l.initial.self → AreKept rank moments l.self;
}

abbrev pub decreases-loop-self : goal.decreases-loop-self
decreases-loop-self g l = length l.self.queue
