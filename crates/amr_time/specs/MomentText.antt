-- The texts of moments: their parts, the moment that each spells, and the one that is written. The
-- form is that of RFC 3339, in the years 0000 to 9999, with at most nine digits of a fraction.
use Rattle.std.specs.Prelude.{◌≡◌, ◌⊎◌, ℕ, ◌+◌, ◌-◌, ◌*◌, ◌/◌, ◌%◌, ◌^◌, ◌<◌, ◌≤◌, ◌==◌, if◌then◌else◌, ℤ, pos, ◌+ℤ◌, ◌-ℤ◌, ◌*ℤ◌, List, [], ◌∷◌, ◌++◌, length, fold}
use Rattle.std.specs.List.{AllByRecursion}
use Rattle.jiff_core.specs.Calendar.{days_in_month, days_from_civil}
use Rattle.amr_time.specs.Time.{Moment, second, minute, hour, full_day, latest_read}
use Rattle.amr_time.specs.Calendar.{Date, date_of}

-- ---- numbers of a fixed number of digits

abbrev pub digit : ℕ → ℕ
digit n = 48 + n % 10

abbrev pub two_digits : ℕ → List ℕ
two_digits n = digit (n / 10) ∷ digit n ∷ []

abbrev pub four_digits : ℕ → List ℕ
four_digits n = two_digits (n / 100) ++ two_digits (n % 100)

abbrev pub nine_digits : ℕ → List ℕ
nine_digits n = digit (n / 100_000_000) ∷ four_digits (n / 10_000 % 10_000) ++ four_digits (n % 10_000)

abbrev pub IsDigit : ℕ → Type 0
IsDigit c = (48 ≤ c) × (c ≤ 57)

-- the number that decimal digits spell
abbrev pub decimal : List ℕ → ℕ
decimal digits = fold (λ n c. n * 10 + (c - 48)) 0 digits

-- ---- the parts of a text

-- A time zone: UTC, or how far local time is ahead of it or behind.
pub data Zone : Type 0 where
  Utc : Zone
  Ahead : ℕ → ℕ → Zone
  Behind : ℕ → ℕ → Zone

pub record Parts : Type 0 where
  pub year : ℕ
  pub month : ℕ
  pub day : ℕ
  pub hours : ℕ
  pub minutes : ℕ
  pub seconds : ℕ
  -- the digits of the fraction
  pub fraction : List ℕ
  pub zone : Zone
  -- T and Z, in either case
  pub time_mark : ℕ
  pub utc_mark : ℕ

abbrev pub fraction_text : List ℕ → List ℕ
fraction_text [] = []
fraction_text (d ∷ ds) = 46 ∷ d ∷ ds

abbrev pub zone_text : ℕ → Zone → List ℕ
zone_text mark Utc = mark ∷ []
zone_text mark (Ahead h m) = 43 ∷ two_digits h ++ 58 ∷ two_digits m
zone_text mark (Behind h m) = 45 ∷ two_digits h ++ 58 ∷ two_digits m

abbrev pub date_text : ℕ → ℕ → ℕ → List ℕ
date_text year month day = four_digits year ++ 45 ∷ two_digits month ++ 45 ∷ two_digits day

abbrev pub time_text : ℕ → ℕ → ℕ → List ℕ
time_text hours minutes seconds = two_digits hours ++ 58 ∷ two_digits minutes ++ 58 ∷ two_digits seconds

abbrev pub spelling : Parts → List ℕ
spelling p = date_text p.year p.month p.day ++ p.time_mark ∷ time_text p.hours p.minutes p.seconds ++ fraction_text p.fraction ++ zone_text p.utc_mark p.zone

abbrev pub IsOffset : Zone → Type 0
IsOffset Utc = Unit {0}
IsOffset (Ahead h m) = (h < 24) × (m < 60)
IsOffset (Behind h m) = (h < 24) × (m < 60)

-- the date and the time of day exist
pub record AreParts (p : Parts) : Type 0 where
  pub year : p.year < 10000
  pub month : (1 ≤ p.month) × (p.month ≤ 12)
  pub day : (1 ≤ p.day) × (p.day ≤ days_in_month (pos p.year) p.month)
  pub clock : (p.hours < 24) × (p.minutes < 60) × (p.seconds < 60)
  pub fraction : (length p.fraction ≤ 9) × AllByRecursion IsDigit p.fraction
  pub zone : IsOffset p.zone
  pub marks : ((p.time_mark ≡ 84) ⊎ (p.time_mark ≡ 116)) × ((p.utc_mark ≡ 90) ⊎ (p.utc_mark ≡ 122))

-- ---- the value

abbrev pub offset_minutes : Zone → ℤ
offset_minutes Utc = pos 0
offset_minutes (Ahead h m) = pos (h * 60 + m)
offset_minutes (Behind h m) = pos 0 -ℤ pos (h * 60 + m)

-- nanoseconds of a fraction of a second
abbrev pub fraction_nanoseconds : List ℕ → ℕ
fraction_nanoseconds digits = decimal digits * 10 ^ (9 - length digits)

-- the day's number times a day, and the time of day, less the offset
abbrev pub nanoseconds_of : Parts → ℤ
nanoseconds_of p = days_from_civil (pos p.year) p.month p.day *ℤ pos full_day +ℤ pos (((p.hours * 60 + p.minutes) * 60 + p.seconds) * second + fraction_nanoseconds p.fraction) -ℤ offset_minutes p.zone *ℤ pos minute

-- the text spells the moment
abbrev pub IsMomentText : List ℕ → Moment → Type 0
IsMomentText text moment = (p : Parts) × AreParts p × (text ≡ spelling p) × (pos moment ≡ nanoseconds_of p) × (moment ≤ latest_read)

-- ---- the text that is written

-- a fraction is written unless it is zero
abbrev pub fraction_digits : ℕ → List ℕ
fraction_digits n = if n == 0 then [] else nine_digits n

-- the parts of a moment in UTC
abbrev pub parts_of : Moment → Parts
parts_of moment =
    let date : Date = date_of (moment / (24 * hour)) in
    record {
      year = date.year;
      month = date.month;
      day = date.day;
      hours = moment / hour % 24;
      minutes = moment / minute % 60;
      seconds = moment / second % 60;
      fraction = fraction_digits (moment % second);
      zone = Utc;
      time_mark = 84;
      utc_mark = 90;
    }

abbrev pub moment_text : Moment → List ℕ
moment_text moment = spelling (parts_of moment)
