-- The texts of the fields of time intervals.
use Rattle.std.specs.Prelude.{ℕ, ◌+◌, ◌*◌, ◌&&◌, ◌==◌, Bool, true, false, List, [], ◌∷◌, length, drop, not, nat_le, nat_lt, if◌then◌else◌, Option, Some, None, option_map, codes, pos, ℤ, negsuc}
use Rattle.std.specs.List.{list_all, position, take_while}
use Rattle.std.specs.Option.{option_or}
use Rattle.std.specs.Str.{bytes_eq, str_eq_ignore_ascii_case}
use Rattle.amr_time.specs.MomentText.{decimal}
use Rattle.amr_time.specs.MomentRead.{◌>>=◌, is_digit, minutes_at}
use Rattle.amr_time.specs.declared.intervals.Range.{Range}
use Rattle.amr_time.specs.declared.intervals.MonthDay.{MonthDay}
use Rattle.amr_time.specs.declared.intervals.MonthDay.TheVariants.{FromStart, FromEnd}
use Rattle.amr_time.specs.declared.intervals.DayRange.{DayRange}

-- ---- times of the day

-- `HH:MM`, from 00:00 to 23:59, in minutes
unfoldable pub time_at : List ℕ → Option ℕ
time_at text = minutes_at text >>= λ read. if length read.1 == 0 then Some read.0 else None

-- the same, or `24:00`
unfoldable pub end_time_at : List ℕ → Option ℕ
end_time_at text = if bytes_eq text (codes "24:00") then Some (24 * 60) else time_at text

-- ---- names and numbers

abbrev pub weekday_names : List (List ℕ)
weekday_names = codes "sunday" ∷ codes "monday" ∷ codes "tuesday" ∷ codes "wednesday" ∷ codes "thursday" ∷ codes "friday" ∷ codes "saturday" ∷ []

abbrev pub month_names : List (List ℕ)
month_names = codes "january" ∷ codes "february" ∷ codes "march" ∷ codes "april" ∷ codes "may" ∷ codes "june" ∷ codes "july" ∷ codes "august" ∷ codes "september" ∷ codes "october" ∷ codes "november" ∷ codes "december" ∷ []

-- the index of the name that the text is, ignoring case, from 0
abbrev pub index_of : List (List ℕ) → List ℕ → Option ℕ
index_of names text = position (str_eq_ignore_ascii_case text) names

-- one digit or more, and nothing else
abbrev pub is_number : List ℕ → Bool
is_number text = nat_le 1 (length text) && list_all is_digit text

-- the number that digits spell, from the least to the greatest allowed
unfoldable pub number_within : ℕ → ℕ → List ℕ → Option ℕ
number_within least greatest text = if is_number text && nat_le least (decimal text) && nat_le (decimal text) greatest then Some (decimal text) else None

abbrev pub weekday_at : List ℕ → Option ℕ
weekday_at text = index_of weekday_names text

-- a name or a number, from 1
unfoldable pub month_at : List ℕ → Option ℕ
month_at text = option_or (option_map (λ index. index + 1) (index_of month_names text)) (number_within 1 12 text)

abbrev pub year_at : List ℕ → Option ℕ
year_at text = number_within 0 18_446_744_073_709_551_615 text

-- from 1 to 31, or from -1 to -31
abbrev pub month_day_at : List ℕ → Option MonthDay
month_day_at [] = None
month_day_at (c ∷ digits) = if c == 45 then option_map (λ day. FromEnd day) (number_within 1 31 digits) else option_map (λ day. FromStart day) (number_within 1 31 (c ∷ digits))

-- ---- ranges

abbrev pub before_colon : List ℕ → List ℕ
before_colon text = take_while (λ c. not (c == 58)) text

-- what is before the first colon and after it, or the whole text twice
unfoldable pub ends_of : List ℕ → List ℕ × List ℕ
ends_of text = if nat_lt (length (before_colon text)) (length text) then (before_colon text, drop (length (before_colon text) + 1) text) else (text, text)

-- the first isn't after the last
abbrev pub range_from : ℕ → ℕ → Option Range
range_from first last = if nat_le first last then Some (record { first = first; last = last }) else None

unfoldable pub weekdays_at : List ℕ → Option Range
weekdays_at text = do
  first ← weekday_at (ends_of text).0
  last ← weekday_at (ends_of text).1
  range_from first last

unfoldable pub months_at : List ℕ → Option Range
months_at text = do
  first ← month_at (ends_of text).0
  last ← month_at (ends_of text).1
  range_from first last

unfoldable pub years_at : List ℕ → Option Range
years_at text = do
  first ← year_at (ends_of text).0
  last ← year_at (ends_of text).1
  range_from first last

-- A range may go from a day counted from the start to one counted from the end, but not the other
-- way round.
abbrev pub may_go_to : MonthDay → MonthDay → Bool
may_go_to (FromStart first) (FromStart last) = nat_le first last
may_go_to (FromStart first) (FromEnd last) = true
may_go_to (FromEnd first) (FromStart last) = false
may_go_to (FromEnd first) (FromEnd last) = nat_le last first

abbrev pub day_range_from : MonthDay → MonthDay → Option DayRange
day_range_from first last = if may_go_to first last then Some (record { first = first; last = last }) else None

unfoldable pub days_at : List ℕ → Option DayRange
days_at text = do
  first ← month_day_at (ends_of text).0
  last ← month_day_at (ends_of text).1
  day_range_from first last

-- ---- numbers that aren't texts

abbrev pub single : ℕ → Range
single n = record { first = n; last = n }

abbrev pub month_numbered : ℕ → Option Range
month_numbered n = if nat_le 1 n && nat_le n 12 then Some (single n) else None

abbrev pub single_day : MonthDay → DayRange
single_day day = record { first = day; last = day }

abbrev pub day_numbered : ℤ → Option DayRange
day_numbered (pos n) = if nat_le 1 n && nat_le n 31 then Some (single_day (FromStart n)) else None
day_numbered (negsuc n) = if nat_le n 30 then Some (single_day (FromEnd (n + 1))) else None
