-- A moment's text that is spelled by its parts is read.
use Rattle.std.proofs.Common.{◌≡◌, ℕ, ◌+◌, ◌-◌, ◌*◌, ◌/◌, ◌%◌, ◌<◌, ◌≤◌, ◌⊎◌, inl, inr, true, false, eqb, List, [], ◌∷◌, ◌++◌, length, Some, pos, refl, arith, le-leb, lt-ltb}
use Rattle.std.proofs.lemmas.Bool.Decides.{nat_tests}
use Rattle.std.proofs.Math.Seq.{drop-append_seam}
use Rattle.std.specs.List.{AllByRecursion}
use Rattle.std.proofs.lemmas.List.Sums.{take_while-cons}
use Rattle.jiff_core.specs.Calendar.{days_in_month, days_from_civil}
use Rattle.amr_time.specs.Time.{latest_read}
use Rattle.amr_time.specs.MomentText.{IsDigit, digit, two_digits, four_digits, date_text, time_text, fraction_text, fraction_nanoseconds, zone_text, Zone, Utc, Ahead, Behind, IsOffset, offset_minutes}
use Rattle.amr_time.specs.MomentRead.{is_digit, two_at, four_at, day_number, day_at, minutes_at, seconds_at, digits_of, fraction_at, offset_at, time_mark_at, moment_at}
use Rattle.amr_time.specs.Laws.{SpelledIsRead}

pub is_one : (c : ℕ) → 48 ≤ c → c ≤ 57 → is_digit c ≡ true
is_one c low high = grind (arith, nat_tests)

two_again : (n : ℕ) (rest : List ℕ) → n < 100 → two_at (two_digits n ++ rest) ≡ Some (n, rest)
two_again n rest lt =
    let e : (digit (n / 10) - 48) * 10 + (digit n - 48) ≡ n = omega arith in
    grind (arith, nat_tests)

four_again : (n : ℕ) (rest : List ℕ) → n < 10000 → four_at (four_digits n ++ rest) ≡ Some (n, rest)
unfolding four_at
four_again n rest lt =
    let e : n / 100 * 100 + n % 100 ≡ n = omega arith in
    rw (two_again (n / 100) (two_digits (n % 100) ++ rest) (omega arith), two_again (n % 100) rest (omega arith), e) refl

number_again : (y m d : ℕ) → (1 ≤ m) × (m ≤ 12) → (1 ≤ d) × (d ≤ days_in_month (pos y) m) → day_number y m d ≡ Some (days_from_civil (pos y) m d)
unfolding day_number
number_again y m d mh dh = grind (arith, nat_tests)

days_few : (y m : ℕ) → days_in_month (pos y) m ≤ 31
days_few y m = grind arith

day_again : (y m d : ℕ) (rest : List ℕ) → y < 10000 → (1 ≤ m) × (m ≤ 12) → (1 ≤ d) × (d ≤ days_in_month (pos y) m)
    → day_at (date_text y m d ++ rest) ≡ Some (days_from_civil (pos y) m d, rest)
unfolding day_at
day_again y m d rest yh mh dh =
    let few = days_few y m in
    let r₁ : List ℕ = two_digits d ++ rest in
    let r₂ : List ℕ = two_digits m ++ 45 ∷ r₁ in
    rw (four_again y (45 ∷ r₂) yh, two_again m (45 ∷ r₁) (omega arith), two_again d rest (omega arith), number_again y m d mh dh) refl

minutes_again : (h m : ℕ) (rest : List ℕ) → h < 24 → m < 60 → minutes_at (two_digits h ++ 58 ∷ two_digits m ++ rest) ≡ Some (h * 60 + m, rest)
unfolding minutes_at
minutes_again h m rest hh mh =
    let r₁ : List ℕ = two_digits m ++ rest in
    rw (two_again h (58 ∷ r₁) (omega arith), two_again m rest (omega arith), lt-ltb h 24 hh, lt-ltb m 60 mh) refl

seconds_again : (h m s : ℕ) (rest : List ℕ) → (h < 24) × (m < 60) × (s < 60) → seconds_at (time_text h m s ++ rest) ≡ Some ((h * 60 + m) * 60 + s, rest)
unfolding seconds_at
seconds_again h m s rest c =
    let r₁ : List ℕ = two_digits s ++ rest in
    rw (minutes_again h m (58 ∷ r₁) c.0 c.1, two_again s rest (omega arith), lt-ltb s 60 c.2) refl

time_mark_again : (mark : ℕ) (rest : List ℕ) → (mark ≡ 84) ⊎ (mark ≡ 116) → time_mark_at (mark ∷ rest) ≡ Some rest
time_mark_again mark rest e = grind (arith, nat_tests)

-- digits before another byte are all that is taken
pub digits_again : (digits : List ℕ) (c : ℕ) (cs : List ℕ) → AllByRecursion IsDigit digits → is_digit c ≡ false → digits_of (digits ++ c ∷ cs) ≡ digits
digits_again [] c cs all stops = rw (take_while-cons is_digit c cs, stops) refl
digits_again (d ∷ ds) c cs all stops =
    rw (take_while-cons is_digit d (ds ++ c ∷ cs), is_one d all.0.0 all.0.1, digits_again ds c cs all.1 stops) refl

fraction_again : (digits : List ℕ) (c : ℕ) (cs : List ℕ) → (length digits ≤ 9) × AllByRecursion IsDigit digits → is_digit c ≡ false → eqb c 46 ≡ false
    → fraction_at (fraction_text digits ++ c ∷ cs) ≡ Some (fraction_nanoseconds digits, c ∷ cs)
fraction_again [] c cs all stops point = rw point refl
fraction_again (d ∷ ds) c cs all stops point =
    rw (digits_again (d ∷ ds) c cs all.1 stops, le-leb 1 (length (d ∷ ds)) (omega arith), le-leb (length (d ∷ ds)) 9 all.0, drop-append_seam (d ∷ ds) (c ∷ cs)) refl

offset_again : (mark : ℕ) (zone : Zone) → IsOffset zone → (mark ≡ 90) ⊎ (mark ≡ 122) → offset_at (zone_text mark zone) ≡ Some (offset_minutes zone, [])
unfolding offset_at
offset_again mark Utc are e = grind (arith, nat_tests)
offset_again mark (Ahead h m) are e = rw (minutes_again h m [] are.0 are.1) refl
offset_again mark (Behind h m) are e = rw (minutes_again h m [] are.0 are.1) refl

-- a zone begins with a byte that isn't a digit or a point
fraction_before : (digits : List ℕ) (mark : ℕ) (zone : Zone) → (mark ≡ 90) ⊎ (mark ≡ 122) → (length digits ≤ 9) × AllByRecursion IsDigit digits
    → fraction_at (fraction_text digits ++ zone_text mark zone) ≡ Some (fraction_nanoseconds digits, zone_text mark zone)
fraction_before digits mark Utc (inl e) all = rw e (fraction_again digits 90 [] all refl refl)
fraction_before digits mark Utc (inr e) all = rw e (fraction_again digits 122 [] all refl refl)
fraction_before digits mark (Ahead h m) e all = fraction_again digits 43 (two_digits h ++ 58 ∷ two_digits m) all refl refl
fraction_before digits mark (Behind h m) e all = fraction_again digits 45 (two_digits h ++ 58 ∷ two_digits m) all refl refl

pub spelled_is_read : SpelledIsRead
unfolding moment_at
spelled_is_read text moment (p, a, e, v, last) =
    let zone : List ℕ = zone_text p.utc_mark p.zone in
    let r₃ : List ℕ = fraction_text p.fraction ++ zone in
    let r₂ : List ℕ = time_text p.hours p.minutes p.seconds ++ r₃ in
    rw (
      e,
      day_again p.year p.month p.day (p.time_mark ∷ r₂) a.year a.month a.day,
      time_mark_again p.time_mark r₂ a.marks.0,
      seconds_again p.hours p.minutes p.seconds r₃ a.clock,
      fraction_before p.fraction p.utc_mark p.zone a.marks.1 a.fraction,
      offset_again p.utc_mark p.zone a.zone a.marks.1,
      ← v,
      le-leb moment latest_read last,
    ) refl
