-- Numbers of decimal digits.
use Rattle.std.proofs.Common.{◌≡◌, ℕ, ◌+◌, ◌-◌, ◌*◌, ◌^◌, ◌<◌, ◌≤◌, true, false, cond, leb, List, [], ◌∷◌, length, take, drop, length-drop, fold, min, Some, refl, ap, ◌∙◌, arith, le-leb, take_all}
use Rattle.std.specs.List.{AllByRecursion, prefix_len}
use Rattle.std.proofs.Math.Nat.{pow-suc, pow-le-pow_right, mul-le-mul_left}
use Rattle.std.proofs.lemmas.Bool.Decides.{nat_tests}
use Rattle.std.proofs.lemmas.List.Folds.{length-prefix_len}
use Rattle.std.proofs.lemmas.List.Sums.{take_while-cons}
use Rattle.amr_time.specs.MomentText.{IsDigit, decimal}
use Rattle.amr_time.specs.MomentRead.{is_digit, digits_of, fraction_digits_at}

pub digit_in : (c : ℕ) → is_digit c ≡ true → IsDigit c
digit_in c h = grind (arith, nat_tests)

pub digits_of_are : (text : List ℕ) → AllByRecursion IsDigit (digits_of text)
digits_of_are [] = tt
digits_of_are (c ∷ cs) =
    rw (take_while-cons is_digit c cs) (elim (is_digit c) as (λ b. is_digit c ≡ b → AllByRecursion IsDigit (cond b (c ∷ digits_of cs) [])) [
      | true ↦ λ h. (digit_in c h, digits_of_are cs)
      | false ↦ λ h. tt
    ] refl)

abbrev step : ℕ → ℕ → ℕ
step n c = n * 10 + (c - 48)

rises : (a b s p q : ℕ) → a < b * p → b ≤ s * 10 → q ≡ p * 10 → a < s * q
rises a b s p q lt le e =
    let scaled : p * b ≤ p * (s * 10) = mul-le-mul_left p le in
    rw e (grind arith)

below : (digits : List ℕ) (start : ℕ) → AllByRecursion IsDigit digits → fold step start digits < (start + 1) * 10 ^ length digits
below [] start all = omega arith
below (c ∷ cs) start all =
    let rest = below cs (start * 10 + (c - 48)) all.1 in
    let more : start * 10 + (c - 48) + 1 ≤ (start + 1) * 10 = omega (arith, all.0) in
    rises (fold step (start * 10 + (c - 48)) cs) (start * 10 + (c - 48) + 1) (start + 1) (10 ^ length cs) (10 ^ length (c ∷ cs)) rest more (pow-suc 10 (length cs))

pub decimal_below : (digits : List ℕ) → AllByRecursion IsDigit digits → decimal digits < 10 ^ length digits
decimal_below digits all = omega (arith, below digits 0 all)

pub within_nine : (text : List ℕ) → length (digits_of text) ≤ 9 → min 999_999_999 (decimal (digits_of text)) ≡ decimal (digits_of text)
within_nine text le =
    let p = pow-le-pow_right {n = 10} (omega arith) {i = length (digits_of text)} {j = 9} le in
    let q : 10 ^ length (digits_of text) ≤ 1_000_000_000 = p in
    let b = decimal_below (digits_of text) (digits_of_are text) in
    omega arith

pub fraction_bound : (number count : ℕ) → number ≤ 999_999_999 → number * 10 ^ (9 - count) < 2 ^ 60
fraction_bound number count le =
    let p = pow-le-pow_right {n = 10} (omega arith) {i = 9 - count} {j = 9} (omega arith) in
    let q : 10 ^ (9 - count) ≤ 1_000_000_000 = p in
    omega (arith, mul-le-mul_left number q)

-- what is computed of a fraction is what the definition gives
pub fraction_gives : (bytes : List ℕ) (count number power : ℕ) → count ≡ length (digits_of bytes) → 1 ≤ count → count ≤ 9
    → number ≡ min 999_999_999 (decimal (take count bytes)) → power ≡ 10 ^ (9 - count)
    → Some (number * power, take (length bytes - count) (drop count bytes)) ≡ fraction_digits_at bytes
fraction_gives bytes count number power e one nine n p =
    let k : count ≡ prefix_len is_digit bytes = e ∙ length-prefix_len is_digit bytes in
    let front : take count bytes ≡ digits_of bytes = ap (λ (i : ℕ). take i bytes) k in
    let back : take (length bytes - count) (drop count bytes) ≡ drop count bytes = take_all (length bytes - count) (drop count bytes) (omega (arith, length-drop count bytes)) in
    let some : leb 1 (length (digits_of bytes)) ≡ true = le-leb 1 (length (digits_of bytes)) (omega arith) in
    let few : leb (length (digits_of bytes)) 9 ≡ true = le-leb (length (digits_of bytes)) 9 (omega arith) in
    let value : number ≡ decimal (digits_of bytes) = n ∙ ap (λ (ds : List ℕ). min 999_999_999 (decimal ds)) front ∙ within_nine bytes (omega arith) in
    rw (some, few, back, value, p, e) refl
