-- The text of a duration is read as what it spells, and nothing else is read.
use Rattle.std.proofs.Common.{◌≡◌, ℕ, ◌+◌, ◌*◌, ◌≤◌, ◌⊎◌, inl, inr, Bool, true, false, cond, not, leb, eqb, List, [], ◌∷◌, ◌++◌, length, Option, Some, None, option_map, refl, sym, ap, ◌∙◌, arith, append_assoc, take-append-drop, bytes_eq}
use Rattle.std.proofs.lemmas.Bool.{cases_Bool, and_parts, and_right, le-leb, leb-true}
use Rattle.std.proofs.lemmas.Bool.Decides.{nat_tests}
use Rattle.std.proofs.lemmas.Option.{same_Some}
use Rattle.std.proofs.lemmas.List.Folds.{length-prefix_len}
use Rattle.std.proofs.lemmas.List.Sums.{take_while-cons}
use Rattle.std.proofs.lemmas.Slice.Eq.{bytes_eq-Decides}
use Rattle.std.proofs.Math.Seq.{drop-append_seam}
use Rattle.std.specs.List.{AllByRecursion, prefix_len}
use Rattle.amr_time.specs.Time.{longest_span}
use Rattle.amr_time.specs.MomentText.{decimal}
use Rattle.amr_time.specs.MomentRead.{is_digit, digits_of}
use Rattle.amr_time.specs.SpanRead.{UnitOfTime, units, word_of, after_digits, after_word, has_unit, parts_at, limited, span_of}
use Rattle.amr_time.specs.SpanText.{AreDigits, amount_text, amounts_text, amounts_total, AreAmounts, ReadSpanIsSpelled, SpelledSpanIsRead}
use Rattle.amr_time.proofs.Decimals.{digits_of_are}
use Rattle.amr_time.proofs.Takes.{parted}
use Rattle.amr_time.proofs.Spelled.{is_one, digits_again}

-- ---- what is read

mapped : {P : Type 0} (f : ℕ → ℕ) (o : Option ℕ) (y : ℕ) → option_map f o ≡ Some y → ((x : ℕ) → o ≡ Some x → f x ≡ y → P) → P
mapped f None y h then = absurd cc
mapped f (Some x) y h then = then x refl (same_Some (f x) y h)

parted_word : (text : List ℕ) → word_of text ++ after_word text ≡ text
parted_word text = rw (length-prefix_len (λ c. not (is_digit c)) text) (take-append-drop (prefix_len (λ c. not (is_digit c)) text) text)

some_amount : (unit : UnitOfTime) (digits : List ℕ) → 1 ≤ length digits → amount_text unit digits ≡ digits ++ unit.0
some_amount unit [] le = absurd (omega arith)
some_amount unit (d ∷ ds) le = refl

pub record PartsTaken (us : List UnitOfTime) (text : List ℕ) (n : ℕ) : Type 0 where
  pub amounts : List (List ℕ)
  pub digits : AllByRecursion AreDigits amounts
  pub text_is : text ≡ amounts_text us amounts
  pub sum : n ≡ amounts_total us amounts

unit_takes : (u : UnitOfTime) (us : List UnitOfTime) (text : List ℕ) (n : ℕ) (b : Bool) → has_unit u text ≡ b → ((t : List ℕ) (k : ℕ) → parts_at us t ≡ Some k → PartsTaken us t k)
    → cond b (option_map (λ k. decimal (digits_of text) * u.1 + k) (parts_at us (after_word (after_digits text)))) (parts_at us text) ≡ Some n → PartsTaken (u ∷ us) text n
unit_takes u us text n false e again h =
    let t = again text n h in
    record { amounts = [] ∷ t.amounts; digits = (tt, t.digits); text_is = t.text_is; sum = grind arith }
unit_takes u us text n true e again h =
    mapped (λ k. decimal (digits_of text) * u.1 + k) (parts_at us (after_word (after_digits text))) n h (λ k at sum.
    let t = again (after_word (after_digits text)) k at in
    let a = and_parts (leb 1 (length (digits_of text))) (bytes_eq (word_of (after_digits text)) u.0) e in
    let word = (bytes_eq-Decides (word_of (after_digits text)) u.0).0 a.1 in
    let amount = some_amount u (digits_of text) (leb-true 1 (length (digits_of text)) a.0) in
    record {
      amounts = digits_of text ∷ t.amounts;
      digits = (digits_of_are text, t.digits);
      text_is = cc (parted text, parted_word (after_digits text), append_assoc (digits_of text) u.0 (amounts_text us t.amounts));
      sum = sym sum ∙ ap (λ (i : ℕ). decimal (digits_of text) * u.1 + i) t.sum;
    })

parts_take : (us : List UnitOfTime) (text : List ℕ) (n : ℕ) → parts_at us text ≡ Some n → PartsTaken us text n
unfolding parts_at
parts_take [] [] n h = record { amounts = []; digits = tt; text_is = refl; sum = sym (same_Some 0 n h) }
parts_take [] (c ∷ cs) n h = absurd cc
parts_take (u ∷ us) text n h = unit_takes u us text n (has_unit u text) refl (λ t k e. parts_take us t k e) h

limit_takes : (o : Option ℕ) (n : ℕ) → limited o ≡ Some n → (o ≡ Some n) × (n ≤ longest_span)
limit_takes None n h = absurd cc
limit_takes (Some k) n h = grind (arith, nat_tests)

not_empty : (text : List ℕ) → eqb (length text) 0 ≡ false → ¬ (text ≡ [])
not_empty text h e = grind (arith, nat_tests)

span_takes : (text : List ℕ) (n : ℕ) (zero empty : Bool) → bytes_eq text (48 ∷ []) ≡ zero → eqb (length text) 0 ≡ empty
    → cond zero (Some 0) (cond empty None (limited (parts_at units text))) ≡ Some n → ((text ≡ 48 ∷ []) × (n ≡ 0)) ⊎ AreAmounts text n
span_takes text n true _ e f h = inl ((bytes_eq-Decides text (48 ∷ [])).0 e, sym (same_Some 0 n h))
span_takes text n false true e f h = absurd cc
span_takes text n false false e f h =
    let l = limit_takes (parts_at units text) n h in
    let t = parts_take units text n l.0 in
    inr (record { amounts = t.amounts; digits = t.digits; some = not_empty text f; text_is = t.text_is; sum = t.sum; bound = l.1 })

pub read_span_is_spelled : ReadSpanIsSpelled
unfolding span_of
read_span_is_spelled text n h = span_takes text n _ _ refl refl h

-- ---- what is spelled

abbrev NoDigits : List ℕ → Type 0
NoDigits letters = AllByRecursion (λ c. is_digit c ≡ false) letters

-- the units have letters that aren't digits, and no two have the same
abbrev AreApart : List UnitOfTime → Type 0
AreApart [] = Unit {0}
AreApart (u ∷ us) = (leb 1 (length u.0) ≡ true) × NoDigits u.0 × AllByRecursion (λ v. bytes_eq v.0 u.0 ≡ false) us × AreApart us

units_apart : AreApart units
units_apart = assumption

-- the end, or a digit
abbrev DigitFirst : List ℕ → Type 0
DigitFirst [] = Unit {0}
DigitFirst (c ∷ cs) = is_digit c ≡ true

amounts_first : (us : List UnitOfTime) (amounts : List (List ℕ)) → AllByRecursion AreDigits amounts → DigitFirst (amounts_text us amounts)
amounts_first [] amounts all = tt
amounts_first (u ∷ us) [] all = tt
amounts_first (u ∷ us) ([] ∷ amounts) all = amounts_first us amounts all.1
amounts_first (u ∷ us) ((d ∷ ds) ∷ amounts) all = is_one d all.0.0.0 all.0.0.1

word_again : (letters tail : List ℕ) → NoDigits letters → DigitFirst tail → word_of (letters ++ tail) ≡ letters
word_again [] [] none first = refl
word_again [] (c ∷ cs) none first = rw (take_while-cons (λ k. not (is_digit k)) c cs, first) refl
word_again (l ∷ ls) tail none first = rw (take_while-cons (λ k. not (is_digit k)) l (ls ++ tail), none.0, word_again ls tail none.1 first) refl

digits_before : (digits letters tail : List ℕ) → AreDigits digits → leb 1 (length letters) ≡ true → NoDigits letters → digits_of (digits ++ (letters ++ tail)) ≡ digits
digits_before digits [] tail all some none = cc
digits_before digits (l ∷ ls) tail all some none = digits_again digits l (ls ++ tail) all none.0

pub record AmountRead (digits letters tail text : List ℕ) : Type 0 where
  pub digits_are : digits_of text ≡ digits
  pub word_is : word_of (after_digits text) ≡ letters
  pub rest_is : after_word (after_digits text) ≡ tail

amount_read : (digits letters tail : List ℕ) → AreDigits digits → leb 1 (length letters) ≡ true → NoDigits letters → DigitFirst tail → AmountRead digits letters tail ((digits ++ letters) ++ tail)
amount_read digits letters tail all some none first =
    let d = digits_before digits letters tail all some none in
    let after : after_digits (digits ++ (letters ++ tail)) ≡ letters ++ tail = rw d (drop-append_seam digits (letters ++ tail)) in
    let w = word_again letters tail none first in
    rw (append_assoc digits letters tail) (record { digits_are = d; word_is = rw (after, w) refl; rest_is = rw (after, w) (drop-append_seam letters tail) })

-- a unit isn't there if the text begins with another
other_unit : (u : UnitOfTime) (us : List UnitOfTime) (amounts : List (List ℕ)) → AllByRecursion (λ v. bytes_eq v.0 u.0 ≡ false) us → AreApart us → AllByRecursion AreDigits amounts → has_unit u (amounts_text us amounts) ≡ false
other_unit u [] amounts apart each all = refl
other_unit u (v ∷ vs) [] apart each all = refl
other_unit u (v ∷ vs) ([] ∷ amounts) apart each all = other_unit u vs amounts apart.1 each.3 all.1
other_unit u (v ∷ vs) ((d ∷ ds) ∷ amounts) apart each all =
    let tail : List ℕ = amounts_text vs amounts in
    let text : List ℕ = (d ∷ ds ++ v.0) ++ tail in
    let r = amount_read (d ∷ ds) v.0 tail all.0 each.0 each.1 (amounts_first vs amounts all.1) in
    and_right (leb 1 (length (digits_of text))) (bytes_eq (word_of (after_digits text)) u.0) (rw r.word_is apart.0)

nothing_there : (us : List UnitOfTime) → parts_at us [] ≡ Some 0
unfolding parts_at
nothing_there [] = refl
nothing_there (u ∷ us) = nothing_there us

unit_again : (u : UnitOfTime) (us : List UnitOfTime) (digits tail text : List ℕ) (n : ℕ) → AmountRead digits u.0 tail text → 1 ≤ length digits → parts_at us tail ≡ Some n → parts_at (u ∷ us) text ≡ Some (decimal digits * u.1 + n)
unfolding parts_at
unit_again u us digits tail text n r some h =
    rw (r.rest_is, r.word_is, r.digits_are, (bytes_eq-Decides u.0 u.0).1 refl, le-leb 1 (length digits) some, h) refl

parts_again : (us : List UnitOfTime) (amounts : List (List ℕ)) → AreApart us → AllByRecursion AreDigits amounts → parts_at us (amounts_text us amounts) ≡ Some (amounts_total us amounts)
unfolding parts_at
parts_again [] amounts each all = refl
parts_again (u ∷ us) [] each all = nothing_there us
parts_again (u ∷ us) ([] ∷ amounts) each all =
    grind (arith, other_unit u us amounts each.2 each.3 all.1, parts_again us amounts each.3 all.1)
parts_again (u ∷ us) ((d ∷ ds) ∷ amounts) each all =
    let tail : List ℕ = amounts_text us amounts in
    let r = amount_read (d ∷ ds) u.0 tail all.0 each.0 each.1 (amounts_first us amounts all.1) in
    unit_again u us (d ∷ ds) tail ((d ∷ ds ++ u.0) ++ tail) (amounts_total us amounts) r (omega arith) (parts_again us amounts each.3 all.1)

zero_apart : (amounts : List (List ℕ)) → AllByRecursion AreDigits amounts → 48 ∷ [] ≡ amounts_text units amounts → ⊥
unfolding parts_at
zero_apart amounts all e = cc (ap (λ (t : List ℕ). parts_at units t) e ∙ parts_again units amounts units_apart all)

empty_is : (text : List ℕ) → ¬ (text ≡ []) → eqb (length text) 0 ≡ false
empty_is [] some = absurd (some refl)
empty_is (c ∷ cs) some = grind (arith, nat_tests)

pub spelled_span_is_read : SpelledSpanIsRead
unfolding span_of
spelled_span_is_read text span (inl (e, z)) = rw (e, z) refl
spelled_span_is_read text span (inr a) =
    elim (cases_Bool (bytes_eq text (48 ∷ []))) [
      | inl h ↦ absurd (zero_apart a.amounts a.digits (sym ((bytes_eq-Decides text (48 ∷ [])).0 h) ∙ a.text_is))
      | inr h ↦
          let total : parts_at units text ≡ Some span = rw (a.text_is, a.sum) (parts_again units a.amounts units_apart a.digits) in
          rw (h, empty_is text a.some, total, le-leb span longest_span a.bound) refl
    ]
