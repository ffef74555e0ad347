-- The texts of durations, by the amount of each unit.
use Rattle.std.specs.Prelude.{◌≡◌, ◌⊎◌, ℕ, ◌+◌, ◌*◌, ◌≤◌, List, [], ◌∷◌, ◌++◌, Some, codes}
use Rattle.std.specs.List.{AllByRecursion}
use Rattle.amr_time.specs.Time.{Span, longest_span}
use Rattle.amr_time.specs.MomentText.{IsDigit, decimal}
use Rattle.amr_time.specs.SpanRead.{UnitOfTime, units, span_of}

abbrev pub AreDigits : List ℕ → Type 0
AreDigits digits = AllByRecursion IsDigit digits

-- the digits of an amount and the letters of its unit, if the amount is there
abbrev pub amount_text : UnitOfTime → List ℕ → List ℕ
amount_text unit [] = []
amount_text unit (d ∷ ds) = d ∷ ds ++ unit.0

-- the amounts of these units, in their order
abbrev pub amounts_text : List UnitOfTime → List (List ℕ) → List ℕ
amounts_text [] amounts = []
amounts_text (unit ∷ smaller) [] = []
amounts_text (unit ∷ smaller) (digits ∷ amounts) = amount_text unit digits ++ amounts_text smaller amounts

-- and their sum
abbrev pub amounts_total : List UnitOfTime → List (List ℕ) → ℕ
amounts_total [] amounts = 0
amounts_total (unit ∷ smaller) [] = 0
amounts_total (unit ∷ smaller) (digits ∷ amounts) = decimal digits * unit.1 + amounts_total smaller amounts

-- the text is one amount or more, and the span is their sum
pub record AreAmounts (text : List ℕ) (span : Span) : Type 0 where
  pub amounts : List (List ℕ)
  pub digits : AllByRecursion AreDigits amounts
  pub some : ¬ (text ≡ [])
  pub text_is : text ≡ amounts_text units amounts
  pub sum : span ≡ amounts_total units amounts
  pub bound : span ≤ longest_span

-- the text spells the duration
abbrev pub IsSpanText : List ℕ → Span → Type 0
IsSpanText text span = ((text ≡ codes "0") × (span ≡ 0)) ⊎ AreAmounts text span

-- a duration that is read is spelled like this
abbrev pub ReadSpanIsSpelled : Type 0
ReadSpanIsSpelled = (text : List ℕ) (span : Span) → span_of text ≡ Some span → IsSpanText text span

-- and one that is spelled like this is read
abbrev pub SpelledSpanIsRead : Type 0
SpelledSpanIsRead = (text : List ℕ) (span : Span) → IsSpanText text span → span_of text ≡ Some span
