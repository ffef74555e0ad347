-- Which changes the state takes.
use Rattle.std.specs.Prelude.{◌≤◌}
use Rattle.amr_time.specs.Time.{latest_read}
use Rattle.amr_engine.specs.declared.state.change.Change.{Change}
use Rattle.amr_engine.specs.declared.state.change.Change.TheVariants.{OfMoment, OfNotes}

-- the store takes the change: a moment that a script can have, a roster, or a value in one of the
-- tables
abbrev pub IsAllowed : Change → Type 0
IsAllowed (OfMoment moment) = moment ≤ latest_read
IsAllowed (OfNotes count) = ⊥
IsAllowed _ = Unit {0}
