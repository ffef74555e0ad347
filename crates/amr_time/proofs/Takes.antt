-- What is read of a part of a moment's text is what the text spells there.
use Rattle.std.proofs.Common.{◌≡◌, ℕ, ◌+◌, ◌*◌, ◌/◌, ◌%◌, ◌<◌, ◌≤◌, ◌⊎◌, inl, Bool, true, false, cond, ltb, eqb, ◌||◌, List, [], ◌∷◌, ◌++◌, length, drop, Option, Some, None, ℤ, pos, negsuc, ◌+ℤ◌, ◌-ℤ◌, ◌*ℤ◌, refl, sym, ap, arith, append-nil, eqb-true, take-append-drop}
use Rattle.std.proofs.lemmas.Bool.Decides.{nat_tests}
use Rattle.std.proofs.lemmas.Option.{cond_some, same_Some}
use Rattle.std.proofs.lemmas.List.Folds.{length-prefix_len}
use Rattle.std.specs.List.{AllByRecursion, prefix_len}
use Rattle.jiff_core.specs.Calendar.{days_in_month, days_from_civil}
use Rattle.amr_time.specs.Time.{second, latest_read}
use Rattle.amr_time.specs.MomentText.{IsDigit, two_digits, four_digits, time_text, fraction_text, fraction_nanoseconds, zone_text, Zone, Utc, Ahead, Behind, IsOffset, offset_minutes}
use Rattle.amr_time.specs.MomentRead.{◌>>=◌, is_digit, mark_at, two_at, four_at, is_date, day_number, day_at, minutes_at, seconds_at, digits_of, fraction_digits_at, fraction_at, offset_at, time_mark_at, in_range, moment_at}
use Rattle.amr_time.specs.Laws.{ReadIsSpelled}
use Rattle.amr_time.proofs.Decimals.{digits_of_are}

-- a step that gives a value, what is known of the value, and what the next step makes of it
given : {A B P : Type 0} {T : A → Type 0} (m : Option A) → ((x : A) → m ≡ Some x → T x) → (f : A → Option B) (y : B) → (m >>= f) ≡ Some y → ((x : A) → T x → f x ≡ Some y → P) → P
given None takes f y h then = absurd cc
given (Some x) takes f y h then = then x (takes x refl) h

mark_takes : (k : ℕ) (bytes rest : List ℕ) → mark_at k bytes ≡ Some rest → bytes ≡ k ∷ rest
mark_takes k [] rest h = absurd cc
mark_takes k (c ∷ cs) rest h = grind (arith, nat_tests)

two_takes : (bytes : List ℕ) (read : ℕ × List ℕ) → two_at bytes ≡ Some read → (bytes ≡ two_digits read.0 ++ read.1) × (read.0 < 100)
two_takes [] read h = absurd cc
two_takes (a ∷ []) read h = absurd cc
two_takes (a ∷ b ∷ bytes) read h = grind (arith, nat_tests)

four_takes : (bytes : List ℕ) (read : ℕ × List ℕ) → four_at bytes ≡ Some read → (bytes ≡ four_digits read.0 ++ read.1) × (read.0 < 10000)
unfolding four_at
four_takes bytes read h =
    given _ (two_takes bytes) _ read h (λ high x h1.
    given _ (two_takes high.1) _ read h1 (λ low y h2.
    let n : ((high.0 * 100 + low.0) / 100 ≡ high.0) × ((high.0 * 100 + low.0) % 100 ≡ low.0) = (omega arith, omega arith) in
    rw (← same_Some (high.0 * 100 + low.0, low.1) read h2, n.0, n.1, x.0, y.0) (refl, omega arith)))

-- hours and minutes
minutes_takes : (bytes : List ℕ) (read : ℕ × List ℕ) → minutes_at bytes ≡ Some read → (bytes ≡ two_digits (read.0 / 60) ++ 58 ∷ two_digits (read.0 % 60) ++ read.1) × (read.0 < 1440)
unfolding minutes_at
minutes_takes bytes read h =
    given _ (two_takes bytes) _ read h (λ hour x h1.
    given _ (mark_takes 58 hour.1) _ read h1 (λ colon p h2.
    given _ (two_takes colon) _ read h2 (λ minute y h3.
    let g : ((hour.0 * 60 + minute.0, minute.1) ≡ read) × (hour.0 < 24) × (minute.0 < 60) = grind (arith, nat_tests) in
    let n : ((hour.0 * 60 + minute.0) / 60 ≡ hour.0) × ((hour.0 * 60 + minute.0) % 60 ≡ minute.0) = (omega arith, omega arith) in
    rw (← g.0, n.0, n.1, x.0, p, y.0) (refl, omega arith))))

seconds_takes : (bytes : List ℕ) (read : ℕ × List ℕ) → seconds_at bytes ≡ Some read → (bytes ≡ time_text (read.0 / 3600) (read.0 / 60 % 60) (read.0 % 60) ++ read.1) × (read.0 < 86400)
unfolding seconds_at
seconds_takes bytes read h =
    given _ (minutes_takes bytes) _ read h (λ minutes x h1.
    given _ (mark_takes 58 minutes.1) _ read h1 (λ colon p h2.
    given _ (two_takes colon) _ read h2 (λ second y h3.
    let g : ((minutes.0 * 60 + second.0, second.1) ≡ read) × (second.0 < 60) = grind (arith, nat_tests) in
    let n : ((minutes.0 * 60 + second.0) / 3600 ≡ minutes.0 / 60) × ((minutes.0 * 60 + second.0) / 60 ≡ minutes.0) × ((minutes.0 * 60 + second.0) % 60 ≡ second.0) = (omega arith, omega arith, omega arith) in
    rw (← g.0, n.0, n.1, n.2, x.0, p, y.0) (refl, omega arith))))

pub record FractionTaken (bytes : List ℕ) (nanoseconds : ℕ) (rest : List ℕ) : Type 0 where
  pub digits : List ℕ
  pub text : bytes ≡ fraction_text digits ++ rest
  pub few : length digits ≤ 9
  pub are : AllByRecursion IsDigit digits
  pub value : nanoseconds ≡ fraction_nanoseconds digits

some_fraction : (digits : List ℕ) → 1 ≤ length digits → fraction_text digits ≡ 46 ∷ digits
some_fraction [] le = absurd (omega arith)
some_fraction (d ∷ ds) le = refl

pub parted : (bytes : List ℕ) → digits_of bytes ++ drop (length (digits_of bytes)) bytes ≡ bytes
parted bytes = rw (length-prefix_len is_digit bytes) (take-append-drop (prefix_len is_digit bytes) bytes)

after_point : (c : ℕ) (cs : List ℕ) (b : Bool) (read : ℕ × List ℕ) → eqb c 46 ≡ b → cond b (fraction_digits_at cs) (Some (0, c ∷ cs)) ≡ Some read → FractionTaken (c ∷ cs) read.0 read.1
after_point c cs false read e h = rw (← same_Some (0, c ∷ cs) read h) (record { digits = []; text = refl; few = omega arith; are = tt; value = refl })
after_point c cs true read e h =
    let digits : List ℕ = digits_of cs in
    let g : (1 ≤ length digits) × (length digits ≤ 9) × ((fraction_nanoseconds digits, drop (length digits) cs) ≡ read) = grind (arith, nat_tests) in
    rw (← g.2) (record {
      digits = digits;
      text = rw (some_fraction digits g.0, eqb-true c 46 e) (ap (λ (ds : List ℕ). 46 ∷ ds) (sym (parted cs)));
      few = g.1;
      are = digits_of_are cs;
      value = refl;
    })

fraction_takes : (bytes : List ℕ) (read : ℕ × List ℕ) → fraction_at bytes ≡ Some read → FractionTaken bytes read.0 read.1
fraction_takes [] read h = rw (← same_Some (0, []) read h) (record { digits = []; text = refl; few = omega arith; are = tt; value = refl })
fraction_takes (c ∷ cs) read h = after_point c cs (eqb c 46) read refl h

-- the zone and the mark of UTC
abbrev OffsetTaken : List ℕ → ℤ → List ℕ → Type 0
OffsetTaken bytes minutes rest =
    (zone : Zone) × (mark : ℕ) × (bytes ≡ zone_text mark zone ++ rest) × IsOffset zone × ((mark ≡ 90) ⊎ (mark ≡ 122)) × (minutes ≡ offset_minutes zone)

either : (c k l : ℕ) → (eqb c k || eqb c l) ≡ true → (c ≡ k) ⊎ (c ≡ l)
either c k l h = grind (arith, nat_tests)

hours_and_minutes : (m : ℕ) → m < 1440 → (m / 60 * 60 + m % 60 ≡ m) × (m / 60 < 24) × (m % 60 < 60)
hours_and_minutes m lt = (omega arith, omega arith, omega arith)

zone_takes : (c : ℕ) (cs : List ℕ) (read : ℤ × List ℕ) (utc ahead behind : Bool) → (eqb c 90 || eqb c 122) ≡ utc → eqb c 43 ≡ ahead → eqb c 45 ≡ behind
    → cond utc (Some (pos 0, cs)) (cond ahead (minutes_at cs >>= λ m. Some (pos m.0, m.1)) (cond behind (minutes_at cs >>= λ m. Some (pos 0 -ℤ pos m.0, m.1)) None)) ≡ Some read
    → OffsetTaken (c ∷ cs) read.0 read.1
zone_takes c cs read true _ _ e f g h = rw (← same_Some (pos 0, cs) read h) (Utc, c, refl, tt, either c 90 122 e, refl)
zone_takes c cs read false true _ e f g h =
    given _ (minutes_takes cs) _ read h (λ m x h1.
    let n = hours_and_minutes m.0 x.1 in
    rw (← same_Some (pos m.0, m.1) read h1) (Ahead (m.0 / 60) (m.0 % 60), 90, rw (eqb-true c 43 f) (ap (λ (ds : List ℕ). 43 ∷ ds) x.0), (n.1, n.2), inl refl, rw n.0 refl))
zone_takes c cs read false false true e f g h =
    given _ (minutes_takes cs) _ read h (λ m x h1.
    let n = hours_and_minutes m.0 x.1 in
    rw (← same_Some (pos 0 -ℤ pos m.0, m.1) read h1) (Behind (m.0 / 60) (m.0 % 60), 90, rw (eqb-true c 45 g) (ap (λ (ds : List ℕ). 45 ∷ ds) x.0), (n.1, n.2), inl refl, rw n.0 refl))
zone_takes c cs read false false false e f g h = absurd cc

offset_takes : (bytes : List ℕ) (read : ℤ × List ℕ) → offset_at bytes ≡ Some read → OffsetTaken bytes read.0 read.1
unfolding offset_at
offset_takes [] read h = absurd cc
offset_takes (c ∷ cs) read h = zone_takes c cs read _ _ _ refl refl refl h

time_mark_takes : (bytes rest : List ℕ) → time_mark_at bytes ≡ Some rest → (mark : ℕ) × (bytes ≡ mark ∷ rest) × ((mark ≡ 84) ⊎ (mark ≡ 116))
time_mark_takes [] rest h = absurd cc
time_mark_takes (c ∷ cs) rest h = (c, grind (arith, nat_tests), grind (arith, nat_tests))

range_takes : (z : ℤ) (n : ℕ) → in_range z ≡ Some n → (z ≡ pos n) × (n ≤ latest_read)
range_takes (pos k) n h = grind (arith, nat_tests)
range_takes (negsuc k) n h = absurd cc

nothing_left : (rest : List ℕ) (o : Option ℕ) (n : ℕ) → cond (ltb 0 (length rest)) None o ≡ Some n → (rest ≡ []) × (o ≡ Some n)
nothing_left [] o n h = (refl, h)
nothing_left (c ∷ cs) o n h = absurd (grind (arith, nat_tests))

is_dated : (year month day : ℕ) → is_date year month day ≡ true → ((1 ≤ month) × (month ≤ 12)) × ((1 ≤ day) × (day ≤ days_in_month (pos year) month))
is_dated year month day h = grind (arith, nat_tests)

pub read_is_spelled : ReadIsSpelled
unfolding moment_at day_at day_number
read_is_spelled text moment h =
    given (day_at text) (λ date e. e) _ moment h (λ date e h1.
    given _ (four_takes text) _ date e (λ year y e1.
    given _ (mark_takes 45 year.1) _ date e1 (λ dash p e2.
    given _ (two_takes dash) _ date e2 (λ month m e3.
    given _ (mark_takes 45 month.1) _ date e3 (λ dash2 q e4.
    given _ (two_takes dash2) _ date e4 (λ day d e5.
    given (day_number year.0 month.0 day.0) (cond_some (is_date year.0 month.0 day.0) (days_from_civil (pos year.0) month.0 day.0)) _ date e5 (λ number n e6.
    given _ (time_mark_takes date.1) _ moment h1 (λ mark t h2.
    given _ (seconds_takes mark) _ moment h2 (λ seconds s h3.
    given _ (fraction_takes seconds.1) _ moment h3 (λ fraction f h4.
    given _ (offset_takes fraction.1) _ moment h4 (λ offset o h5.
    let last = nothing_left offset.1 _ moment h5 in
    let r = range_takes (date.0 *ℤ pos 86_400_000_000_000 +ℤ pos (seconds.0 * second + fraction.0) -ℤ offset.0 *ℤ pos 60_000_000_000) moment last.1 in
    let dated = is_dated year.0 month.0 day.0 n.0 in
    let clock : seconds.0 ≡ (seconds.0 / 3600 * 60 + seconds.0 / 60 % 60) * 60 + seconds.0 % 60 = omega arith in
    let read : ((number, day.1) ≡ date) = same_Some (number, day.1) date e6 in (
      record {
        year = year.0;
        month = month.0;
        day = day.0;
        hours = seconds.0 / 3600;
        minutes = seconds.0 / 60 % 60;
        seconds = seconds.0 % 60;
        fraction = f.digits;
        zone = o.0;
        time_mark = t.0;
        utc_mark = o.1;
      },
      record {
        year = y.1;
        month = dated.0;
        day = dated.1;
        clock = (omega arith, omega arith, omega arith);
        fraction = (f.few, f.are);
        zone = o.3;
        marks = (t.2, o.4);
      },
      rw (y.0, p, m.0, q, d.0, ap (λ (r : ℤ × List ℕ). r.1) read, t.1, s.0, f.text, o.2, last.0, append-nil (zone_text o.1 o.0)) refl,
      cc,
      r.1,
    ))))))))))))
