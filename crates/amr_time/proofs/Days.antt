-- The formula's day is the day of the calendar with that number.
use Rattle.std.proofs.Common.{◌≡◌, ℕ, suc, ◌+◌, ◌-◌, ◌*◌, ◌/◌, ◌%◌, ◌<◌, ◌≤◌, inl, inr, sym, ◌∙◌, arith, pos, to_z, of_z, w16, w64}
use Rattle.std.proofs.lemmas.Int.{ints, to_z_pos, to_z-of_z}
use Rattle.std.proofs.lemmas.Bool.{cases_lt, lt-ltb, le-ltb}
use Rattle.jiff_core.specs.Calendar.{IsCivilDate, day_count, days_from_civil}
use Rattle.jiff_core.specs.March.{march_days}
use Rattle.jiff_core.specs.Date.{epoch_day}
use Rattle.jiff_core.specs.declared.civil.date.Date.{Date as JiffDate}
use Rattle.jiff_core.proofs.SignedLemmas.{signed_arith}
use Rattle.jiff_core.proofs.CalendarLemmas.{days_from_civil-day_count}
use Rattle.jiff_core.proofs.DateLemmas.{epoch_day_injective}
use Rattle.jiff_core.proofs.MarchLemmas.{leap_day, leap_day-shift, march_days-suc, month_and_day, day_in_month, day_in_early_month, day_count-late, day_count-early}
use Rattle.amr_time.specs.Calendar.{Date, date_from_march, date_in_era, date_of}

-- the year of a day within four hundred years that begin on March 1: its first day is no later,
-- and the day comes before the next year's first
year_is : (day : ℕ) → day < 146097 → let year : ℕ = (day - day / 1460 + day / 36524 - day / 146096) / 365 in
    (365 * year + year / 4 - year / 100 ≤ day) × (day < 365 * (year + 1) + (year + 1) / 4 - (year + 1) / 100 + (year + 1) / 400) × (year < 400)
year_is day lt = (omega arith, omega arith, omega arith)

-- the date is a date, and has the number
pub record IsDayNumber (day : ℕ) (date : Date) : Type 0 where
  pub civil : IsCivilDate (pos date.year) date.month date.day
  pub number : days_from_civil (pos date.year) date.month date.day ≡ pos day

numbered : (y m d day : ℕ) → day_count (pos y) m d ≡ day + 4371953 → days_from_civil (pos y) m d ≡ pos day
numbered y m d day e = omega (arith, signed_arith, days_from_civil-day_count (pos y) m d)

-- from March to December
late : (years n day : ℕ) → n < 366 → years < 10000 → (5 * n + 2) / 153 < 10 → march_days (years + 10000) + n + 60 ≡ day + 4371953
    → IsDayNumber day (record { year = years; month = (5 * n + 2) / 153 + 3; day = n - (153 * ((5 * n + 2) / 153) + 2) / 5 + 1 })
late years n day lt bound month e =
    let m : (5 * n + 2) / 153 + 3 ≡ (5 * n + 461) / 153 = omega arith in
    let d : n - (153 * ((5 * n + 2) / 153) + 2) / 5 + 1 ≡ (5 * n + 461) % 153 / 5 + 1 = omega arith in
    let has = day_in_month (pos years) n (omega arith) in
    let count = day_count-late (pos years) (years + 10000) ((5 * n + 461) / 153) ((5 * n + 461) % 153 / 5 + 1) (omega (arith, signed_arith)) (omega arith) (omega arith) (omega arith) in
    let here = month_and_day n lt in
    rw (m, d) (record {
      civil = ((omega (arith, signed_arith), omega (arith, signed_arith)), (omega arith, omega arith), (omega arith, has));
      number = numbered years ((5 * n + 461) / 153) ((5 * n + 461) % 153 / 5 + 1) day (omega arith);
    })

-- January and February of the next year
early : (years n day : ℕ) → n < 365 + leap_day (pos (years + 1)) → n < 366 → years < 9999 → 10 ≤ (5 * n + 2) / 153 → march_days (years + 10000) + n + 60 ≡ day + 4371953
    → IsDayNumber day (record { year = years + 1; month = (5 * n + 2) / 153 - 9; day = n - (153 * ((5 * n + 2) / 153) + 2) / 5 + 1 })
early years n day leap lt bound month e =
    let m : (5 * n + 2) / 153 - 9 ≡ (5 * n + 461) / 153 - 12 = omega arith in
    let d : n - (153 * ((5 * n + 2) / 153) + 2) / 5 + 1 ≡ (5 * n + 461) % 153 / 5 + 1 = omega arith in
    let has = day_in_early_month (pos (years + 1)) n (omega arith) leap in
    let same : (5 * n + 461) / 153 - 12 + 12 ≡ (5 * n + 461) / 153 = omega arith in
    let count = day_count-early (pos (years + 1)) (years + 10000) ((5 * n + 461) / 153 - 12) ((5 * n + 461) % 153 / 5 + 1) (omega (arith, signed_arith)) (omega arith) (omega arith) (omega arith) in
    let here = month_and_day n lt in
    let total = rw same at count in
    rw (m, d) (record {
      civil = ((omega (arith, signed_arith), omega (arith, signed_arith)), (omega arith, omega arith), (omega arith, has));
      number = numbered (years + 1) ((5 * n + 461) / 153 - 12) ((5 * n + 461) % 153 / 5 + 1) day (omega arith);
    })

of_march : (years n day : ℕ) → n < 365 + leap_day (pos (years + 1)) → n < 366 → march_days (years + 10000) + n + 60 ≡ day + 4371953 → day ≤ 2_932_896
    → IsDayNumber day (date_from_march years n)
of_march years n day leap lt e last =
    elim (cases_lt ((5 * n + 2) / 153) 10) [
      | inl before ↦ rw (lt-ltb ((5 * n + 2) / 153) 10 before) (late years n day lt (omega arith) before e)
      | inr from ↦ rw (le-ltb ((5 * n + 2) / 153) 10 from) (early years n day leap lt (omega arith) from e)
    ]

-- the days before a year of a span of four hundred years, and before the next
march : (era year : ℕ) → year < 400
    → (march_days (era * 400 + year + 10000) ≡ 146097 * era + 3652425 + (365 * year + year / 4 - year / 100))
    × (march_days (era * 400 + year + 10001) ≡ 146097 * era + 3652425 + (365 * (year + 1) + (year + 1) / 4 - (year + 1) / 100 + (year + 1) / 400))
march era year lt = (omega arith, omega arith)

in_era : (era day number : ℕ) → day < 146097 → era * 146097 + day ≡ number + 719468 → number ≤ 2_932_896 → IsDayNumber number (date_in_era (era * 400) day)
in_era era day number lt e last =
    let year : ℕ = (day - day / 1460 + day / 36524 - day / 146096) / 365 in
    let is = year_is day lt in
    let days = march era year is.2 in
    let suc_is = march_days-suc (era * 400 + year + 10000) in
    let shift = leap_day-shift (pos (era * 400 + year + 1)) (suc (era * 400 + year + 10000)) (omega (arith, signed_arith)) in
    of_march (era * 400 + year) (day - (365 * year + year / 4 - year / 100)) number (omega arith) (omega arith) (omega arith) last

pub date_is : (day : ℕ) → day ≤ 2_932_896 → IsDayNumber day (date_of day)
unfolding date_of
date_is day last = in_era ((day + 719468) / 146097) ((day + 719468) % 146097) day (omega arith) (omega arith) last

-- a date with the number is that date, since no two dates have the same number
pub same_date : (day : ℕ) → day ≤ 2_932_896 → (d : JiffDate) → epoch_day d ≡ to_z w64 day
    → (to_z w16 (of_z w16 d.year) ≡ pos (date_of day).year) × (d.month ≡ (date_of day).month) × (d.day ≡ (date_of day).day) × ((date_of day).year ≤ 9999)
same_date day last d e =
    let here = date_is day last in
    let same = epoch_day_injective d (record {
      year = pos (date_of day).year;
      month = (date_of day).month;
      day = (date_of day).day;
      year_in = here.civil.0;
      month_in = here.civil.1;
      day_in = here.civil.2;
    }) (e ∙ to_z_pos w64 day (omega arith) ∙ sym here.number) in
    (to_z-of_z w16 d.year (omega (arith, ints, d.year_in)) ∙ same.0, same.1, same.2, omega (arith, ints, here.civil.0))
