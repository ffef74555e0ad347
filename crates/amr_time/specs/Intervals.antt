-- When a moment is in a time interval (`time_intervals` of Alertmanager's configuration), in UTC.
use Rattle.std.specs.Prelude.{ℕ, ◌+◌, ◌-◌, ◌*◌, ◌/◌, ◌%◌, Bool, true, ◌&&◌, nat_le, nat_lt, List, Option}
use Rattle.std.specs.List.{list_any}
use Rattle.std.specs.Option.{option_map_or}
use Rattle.amr_time.specs.Time.{Moment, minute, hour}
use Rattle.amr_time.specs.Calendar.{Date, date_of, month_length}
use Rattle.amr_time.specs.declared.intervals.TimeRange.{TimeRange}
use Rattle.amr_time.specs.declared.intervals.Range.{Range}
use Rattle.amr_time.specs.declared.intervals.MonthDay.{MonthDay}
use Rattle.amr_time.specs.declared.intervals.MonthDay.TheVariants.{FromStart, FromEnd}
use Rattle.amr_time.specs.declared.intervals.DayRange.{DayRange}
use Rattle.amr_time.specs.declared.intervals.IntervalMember.{IntervalMember}
use Rattle.amr_time.specs.declared.intervals.TimeInterval.{TimeInterval}

-- ---- the clock and the calendar

-- days since 1970-01-01
abbrev pub day_number : Moment → ℕ
day_number moment = moment / (24 * hour)

-- minutes since midnight
abbrev pub minute_of_day : Moment → ℕ
minute_of_day moment = moment / minute % (24 * 60)

-- from Sunday, which is 0, to Saturday, which is 6; the day 0 was a Thursday
abbrev pub weekday : Moment → ℕ
weekday moment = (day_number moment + 4) % 7

abbrev pub date_at : Moment → Date
date_at moment = date_of (day_number moment)

-- ---- ranges

-- the start is inside, and the end isn't
abbrev pub holds_time : ℕ → TimeRange → Bool
holds_time n range = nat_le range.start n && nat_lt n range.end

-- the first and the last are both inside
abbrev pub holds_number : ℕ → Range → Bool
holds_number n range = nat_le range.first n && nat_le n range.last

-- the day in a month of this length; -1 is the month's last day
abbrev pub day_in : ℕ → MonthDay → ℕ
day_in length (FromStart day) = day
day_in length (FromEnd day) = length + 1 - day

-- the first and the last are both inside, in a month of this length
abbrev pub holds_day : ℕ → ℕ → DayRange → Bool
holds_day length day range = nat_le (day_in length range.first) day && nat_le day (day_in length range.last)

-- ---- intervals

-- A field that is absent holds. One that is present holds if one of its ranges does, so an empty
-- list never holds.
abbrev pub holds_field : {A : Type 0} → (A → Bool) → Option (List A) → Bool
holds_field holds field = option_map_or (list_any holds) field true

-- every field holds
unfoldable pub holds_member : Moment → IntervalMember → Bool
holds_member moment member =
    holds_field (holds_time (minute_of_day moment)) member.times
    && holds_field (holds_number (weekday moment)) member.weekdays
    && holds_field (holds_day (month_length (date_at moment)) (date_at moment).day) member.days_of_month
    && holds_field (holds_number (date_at moment).month) member.months
    && holds_field (holds_number (date_at moment).year) member.years

-- one of its members holds
unfoldable pub is_in_interval : TimeInterval → Moment → Bool
is_in_interval interval moment = list_any (holds_member moment) interval.members
