-- The text that is written spells the moment's parts, and is read back.
use Rattle.std.proofs.Common.{◌≡◌, ℕ, ◌+◌, ◌-◌, ◌*◌, ◌/◌, ◌%◌, ◌<◌, ◌≤◌, inl, Bool, true, false, cond, eqb, List, [], length, pos, refl, sym, ap, ◌∙◌, arith, add-zero, eqb-true}
use Rattle.std.proofs.lemmas.Int.{ints}
use Rattle.std.specs.List.{AllByRecursion}
use Rattle.amr_time.specs.Time.{second}
use Rattle.amr_time.specs.MomentText.{IsDigit, digit, nine_digits, decimal, fraction_nanoseconds, parts_of, moment_text}
use Rattle.amr_time.specs.Laws.{WrittenIsSpelled, WrittenIsRead}
use Rattle.amr_time.proofs.Days.{date_is}
use Rattle.amr_time.proofs.Spelled.{spelled_is_read}

digit_is : (n : ℕ) → IsDigit (digit n)
digit_is n = (omega arith, omega arith)

nine_are : (n : ℕ) → AllByRecursion IsDigit (nine_digits n)
nine_are n = (digit_is _, (digit_is _, (digit_is _, (digit_is _, (digit_is _, (digit_is _, (digit_is _, (digit_is _, (digit_is _, tt)))))))))

digit_value : (n : ℕ) → digit n - 48 ≡ n % 10
digit_value n = omega arith

four_value : (n : ℕ) → n < 10_000 → ((n / 100 / 10 % 10 * 10 + n / 100 % 10) * 10 + n % 100 / 10 % 10) * 10 + n % 100 % 10 ≡ n
four_value n lt = omega arith

nine_value : (n : ℕ) → n < 1_000_000_000 → decimal (nine_digits n) ≡ n
nine_value n lt = simp digit_value (omega (arith, four_value (n / 10_000 % 10_000) (omega arith), four_value (n % 10_000) (omega arith)))

pub record FractionWritten (n : ℕ) (digits : List ℕ) : Type 0 where
  pub few : length digits ≤ 9
  pub are : AllByRecursion IsDigit digits
  pub value : fraction_nanoseconds digits ≡ n

fraction_cases : (n : ℕ) (b : Bool) → n < 1_000_000_000 → eqb n 0 ≡ b → FractionWritten n (cond b [] (nine_digits n))
fraction_cases n true lt e = record { few = omega arith; are = tt; value = sym (eqb-true n 0 e) }
fraction_cases n false lt e = record { few = omega arith; are = nine_are n; value = omega (arith, nine_value n lt) }

clock_value : (m : ℕ) → m ≡ m / 86_400_000_000_000 * 86_400_000_000_000 + (((m / 3_600_000_000_000 % 24 * 60 + m / 60_000_000_000 % 60) * 60 + m / 1_000_000_000 % 60) * 1_000_000_000 + m % 1_000_000_000)
clock_value m = omega arith

pub written_is_spelled : WrittenIsSpelled
written_is_spelled m lt =
    let day : ℕ = m / 86_400_000_000_000 in
    let last : day ≤ 2_932_896 = omega arith in
    let d = date_is day last in
    let f = fraction_cases (m % second) (eqb (m % second) 0) (omega arith) refl in (
      record {
        year = omega (arith, ints, d.civil.0);
        month = d.civil.1;
        day = d.civil.2;
        clock = (omega arith, omega arith, omega arith);
        fraction = (f.few, f.are);
        zone = tt;
        marks = (inl refl, inl refl);
      },
      rw (d.number, f.value) (ap (λ (n : ℕ). pos n) (clock_value m ∙ sym (add-zero _))),
    )

pub written_is_read : WrittenIsRead
written_is_read m last =
    let w = written_is_spelled m (omega arith) in
    spelled_is_read (moment_text m) m (parts_of m, w.0, refl, w.1, last)
