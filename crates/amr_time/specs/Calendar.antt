-- The day of the calendar that a day number means, by a formula that computes.
use Rattle.std.specs.Prelude.{ℕ, ◌+◌, ◌-◌, ◌*◌, ◌/◌, ◌%◌, nat_lt, if◌then◌else◌, pos}
use Rattle.jiff_core.specs.Calendar.{days_in_month}

-- a day of the calendar
pub record Date : Type 0 where
  pub year : ℕ
  pub month : ℕ
  pub day : ℕ

-- from a day of the year that begins in March, and its years counted from March of the year 0
abbrev pub date_from_march : ℕ → ℕ → Date
date_from_march years day_of_year =
    let month : ℕ = (5 * day_of_year + 2) / 153 in
    record {
      year = if nat_lt month 10 then years else years + 1;
      month = if nat_lt month 10 then month + 3 else month - 9;
      day = day_of_year - (153 * month + 2) / 5 + 1;
    }

-- the date this many days after March 1 of a year that 400 divides
abbrev pub date_in_era : ℕ → ℕ → Date
date_in_era years day =
    let year : ℕ = (day - day / 1460 + day / 36524 - day / 146096) / 365 in
    date_from_march (years + year) (day - (365 * year + year / 4 - year / 100))

-- the day with this number since 1970
unfoldable pub date_of : ℕ → Date
date_of day = date_in_era ((day + 719468) / 146097 * 400) ((day + 719468) % 146097)

-- how many days the month of the date has
abbrev pub month_length : Date → ℕ
month_length date = days_in_month (pos date.year) date.month
