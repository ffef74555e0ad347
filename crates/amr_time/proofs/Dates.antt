-- jiff's words for a date that exists, as a test.
use Rattle.std.proofs.Common.{◌≡◌, ℕ, ◌<◌, ◌≤◌, true, Some, None, pos, to_z, w8, w16, refl, arith}
use Rattle.std.proofs.lemmas.Bool.{false_from_ne_true}
use Rattle.std.proofs.lemmas.Bool.Decides.{nat_tests}
use Rattle.std.proofs.lemmas.Int.{ints, to_z_pos}
use Rattle.jiff_core.specs.Calendar.{IsDate, days_in_month}
use Rattle.jiff_core.specs.Date.{IsYmd, epoch_day}
use Rattle.jiff_core.specs.declared.civil.date.Date.{Date}
use Rattle.amr_time.specs.MomentRead.{is_date, day_number}

tested : (y m d : ℕ) → IsDate (pos y) (pos m) (pos d) → is_date y m d ≡ true
tested y m d h = grind (arith, ints, nat_tests)

dated : (y m d : ℕ) → y < 10000 → is_date y m d ≡ true → IsDate (pos y) (pos m) (pos d)
dated y m d lt h =
    let t : (1 ≤ m) × (m ≤ 12) × (1 ≤ d) × (d ≤ days_in_month (pos y) m) = grind (arith, nat_tests) in
    ((omega (arith, ints), omega (arith, ints)), (omega (arith, ints), omega (arith, ints)), (omega (arith, ints), omega (arith, ints)))

pub made : (y m d : ℕ) (date : Date) → y < 10000 → m < 100 → d < 100 → IsDate (to_z w16 y) (to_z w8 m) (to_z w8 d) → IsYmd (to_z w16 y) (to_z w8 m) (to_z w8 d) date → Some (epoch_day date) ≡ day_number y m d
unfolding day_number
made y m d date yl ml dl h ymd =
    let same : (to_z w16 y ≡ pos y) × (to_z w8 m ≡ pos m) × (to_z w8 d ≡ pos d) = (to_z_pos w16 y (omega arith), to_z_pos w8 m (omega arith), to_z_pos w8 d (omega arith)) in
    let here : IsDate (pos y) (pos m) (pos d) = rw (same.0, same.1, same.2) at h in
    grind (arith, tested y m d here)

pub refused : (y m d : ℕ) → y < 10000 → m < 100 → d < 100 → ¬ (IsDate (to_z w16 y) (to_z w8 m) (to_z w8 d)) → None ≡ day_number y m d
unfolding day_number
refused y m d yl ml dl h =
    let same : (to_z w16 y ≡ pos y) × (to_z w8 m ≡ pos m) × (to_z w8 d ≡ pos d) = (to_z_pos w16 y (omega arith), to_z_pos w8 m (omega arith), to_z_pos w8 d (omega arith)) in
    rw (false_from_ne_true (is_date y m d) (λ e. h (rw (same.0, same.1, same.2) (dated y m d yl e)))) refl
