-- Reading a moment from left to right: each part is a value and the bytes after it.
use Rattle.std.specs.Prelude.{ℕ, ◌+◌, ◌-◌, ◌*◌, ◌&&◌, ◌||◌, ◌==◌, ℤ, pos, negsuc, ◌+ℤ◌, ◌-ℤ◌, ◌*ℤ◌, List, [], ◌∷◌, length, drop, Bool, nat_le, nat_lt, if◌then◌else◌, Option, Some, None}
use Rattle.std.specs.List.{take_while}
use Rattle.jiff_core.specs.Calendar.{days_in_month, days_from_civil}
use Rattle.amr_time.specs.Time.{Moment, second, minute, full_day, latest_read}
use Rattle.amr_time.specs.MomentText.{fraction_nanoseconds}

infixl 10 ◌>>=◌
abbrev pub ◌>>=◌ : {A B : Type 0} → Option A → (A → Option B) → Option B
(Some x) >>= f = f x
None >>= f = None

abbrev pub is_digit : ℕ → Bool
is_digit c = nat_le 48 c && nat_le c 57

abbrev pub mark_at : ℕ → List ℕ → Option (List ℕ)
mark_at mark [] = None
mark_at mark (c ∷ rest) = if c == mark then Some rest else None

abbrev pub two_at : List ℕ → Option (ℕ × List ℕ)
two_at [] = None
two_at (a ∷ []) = None
two_at (a ∷ b ∷ rest) = if is_digit a && is_digit b then Some ((a - 48) * 10 + (b - 48), rest) else None

unfoldable pub four_at : List ℕ → Option (ℕ × List ℕ)
four_at bytes = do
  high ← two_at bytes
  low ← two_at high.1
  Some (high.0 * 100 + low.0, low.1)

abbrev pub is_date : ℕ → ℕ → ℕ → Bool
is_date year month day = nat_le 1 month && nat_le month 12 && nat_le 1 day && nat_le day (days_in_month (pos year) month)

-- the day number of a date that exists
unfoldable pub day_number : ℕ → ℕ → ℕ → Option ℤ
day_number year month day = if is_date year month day then Some (days_from_civil (pos year) month day) else None

unfoldable pub day_at : List ℕ → Option (ℤ × List ℕ)
day_at bytes = do
  year ← four_at bytes
  dash ← mark_at 45 year.1
  month ← two_at dash
  dash2 ← mark_at 45 month.1
  day ← two_at dash2
  number ← day_number year.0 month.0 day.0
  Some (number, day.1)

-- the minutes since midnight of a time of day, and the bytes after it
abbrev pub in_day_at : ℕ → ℕ → List ℕ → Option (ℕ × List ℕ)
in_day_at hour minute rest = if nat_lt hour 24 && nat_lt minute 60 then Some (hour * 60 + minute, rest) else None

-- hours and minutes, in minutes
unfoldable pub minutes_at : List ℕ → Option (ℕ × List ℕ)
minutes_at bytes = do
  hour ← two_at bytes
  colon ← mark_at 58 hour.1
  minute ← two_at colon
  if nat_lt hour.0 24 && nat_lt minute.0 60 then Some (hour.0 * 60 + minute.0, minute.1) else None

-- hours, minutes and seconds, in seconds
unfoldable pub seconds_at : List ℕ → Option (ℕ × List ℕ)
seconds_at bytes = do
  minutes ← minutes_at bytes
  colon ← mark_at 58 minutes.1
  second ← two_at colon
  if nat_lt second.0 60 then Some (minutes.0 * 60 + second.0, second.1) else None

-- the digits at the front
abbrev pub digits_of : List ℕ → List ℕ
digits_of bytes = take_while is_digit bytes

-- nanoseconds of one to nine digits
abbrev pub fraction_digits_at : List ℕ → Option (ℕ × List ℕ)
fraction_digits_at bytes = if nat_le 1 (length (digits_of bytes)) && nat_le (length (digits_of bytes)) 9 then Some (fraction_nanoseconds (digits_of bytes), drop (length (digits_of bytes)) bytes) else None

-- nanoseconds of the fraction, if there is one
abbrev pub fraction_at : List ℕ → Option (ℕ × List ℕ)
fraction_at [] = Some (0, [])
fraction_at (c ∷ rest) = if c == 46 then fraction_digits_at rest else Some (0, c ∷ rest)

-- the minutes of the offset, ahead and behind
unfoldable pub offset_at : List ℕ → Option (ℤ × List ℕ)
offset_at [] = None
offset_at (c ∷ rest) = if (c == 90) || (c == 122) then Some (pos 0, rest) else (if c == 43 then (minutes_at rest >>= λ m. Some (pos m.0, m.1)) else (if c == 45 then (minutes_at rest >>= λ m. Some (pos 0 -ℤ pos m.0, m.1)) else None))

abbrev pub time_mark_at : List ℕ → Option (List ℕ)
time_mark_at [] = None
time_mark_at (c ∷ rest) = if (c == 84) || (c == 116) then Some rest else None

-- from 1970 to the end of 8999
abbrev pub in_range : ℤ → Option Moment
in_range (pos n) = if nat_le n latest_read then Some n else None
in_range (negsuc n) = None

unfoldable pub moment_at : List ℕ → Option Moment
moment_at bytes = do
  date ← day_at bytes
  mark ← time_mark_at date.1
  seconds ← seconds_at mark
  fraction ← fraction_at seconds.1
  offset ← offset_at fraction.1
  if nat_lt 0 (length offset.1) then None else in_range (date.0 *ℤ pos full_day +ℤ pos (seconds.0 * second + fraction.0) -ℤ offset.0 *ℤ pos minute)
