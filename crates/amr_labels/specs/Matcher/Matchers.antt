-- Matchers, and when one matches a label set.
use Rattle.std.specs.Prelude.{◌≡◌, ℕ, zero, suc, Bool, true, false, not, List}
use Rattle.std.specs.List.{list_all}
use Rattle.std.specs.Ordering.{eq_by_cmp, nat_cmp, ordering_then}
use Rattle.std.specs.declared.cmp.Ordering.{Ordering}
use Rattle.std.specs.Cmp.{IsTotalOrder, nat_cmp_total}
use Rattle.std.specs.Cmp.Lexicographic.{nat_list_cmp_total}
use Rattle.std.proofs.lemmas.Cmp.{on_total, then_total}
use Rattle.std.specs.FinMap.{IsAntisymmetric}
use Rattle.std.proofs.lemmas.Map.Lookups.{exact_pairs, exact_bytes, exact_unsigned}
use Rattle.std.proofs.Common.{refl, ap, sym, ◌∙◌}
use Rattle.amr_labels.specs.declared.matcher.Operator.{Operator}
use Rattle.amr_labels.specs.declared.matcher.Operator.TheVariants.{Equal, NotEqual, Matches, NotMatches}
use Rattle.amr_labels.specs.Labels.{Text, text_cmp, LabelSet, value_of}
use Rattle.amr_labels.specs.Matcher.Patterns.{pattern_matches}

-- a matcher names a label, and says how to compare its value with the matcher's own
pub record Matcher : Type 0 where
  pub name : Text
  pub operator : Operator
  pub value : Text

-- the comparison of a label's value with a matcher's own
abbrev pub compares : Operator → Text → Text → Bool
compares Equal own value = eq_by_cmp text_cmp value own
compares NotEqual own value = not (eq_by_cmp text_cmp value own)
compares Matches own value = pattern_matches own value
compares NotMatches own value = not (pattern_matches own value)

-- whether the operator's value is a pattern
abbrev pub takes_pattern : Operator → Bool
takes_pattern Equal = false
takes_pattern NotEqual = false
takes_pattern Matches = true
takes_pattern NotMatches = true

-- the matcher matches the labels; an absent label counts as empty
abbrev pub holds : Matcher → LabelSet → Bool
holds matcher labels = compares matcher.operator matcher.value (value_of labels matcher.name)

-- all the matchers match
abbrev pub all_hold : List Matcher → LabelSet → Bool
all_hold matchers labels = list_all (λ matcher. holds matcher labels) matchers

-- the rank of an operator in the order of matchers
abbrev pub operator_rank : Operator → ℕ
operator_rank Equal = 0
operator_rank NotEqual = 1
operator_rank Matches = 2
operator_rank NotMatches = 3

-- matchers by name, value and operator
abbrev pub matcher_cmp : Matcher → Matcher → Ordering
matcher_cmp a b =
    ordering_then (text_cmp a.name b.name) (ordering_then (text_cmp a.value b.value) (nat_cmp (operator_rank a.operator) (operator_rank b.operator)))

pub matcher_cmp_total : IsTotalOrder matcher_cmp
matcher_cmp_total =
    then_total (on_total (λ (m : Matcher). m.name) nat_list_cmp_total)
    (then_total (on_total (λ (m : Matcher). m.value) nat_list_cmp_total) (on_total (λ (m : Matcher). operator_rank m.operator) nat_cmp_total))

operator_at : ℕ → Operator
operator_at zero = Equal
operator_at (suc zero) = NotEqual
operator_at (suc (suc zero)) = Matches
operator_at (suc (suc (suc n))) = NotMatches

operator_at_its_rank : (o : Operator) → operator_at (operator_rank o) ≡ o
unfolding operator_at
operator_at_its_rank Equal = refl
operator_at_its_rank NotEqual = refl
operator_at_its_rank Matches = refl
operator_at_its_rank NotMatches = refl

-- matchers that compare as equal are the same
pub matcher_cmp-IsAntisymmetric : IsAntisymmetric matcher_cmp
matcher_cmp-IsAntisymmetric a b tie =
    let parts : ◌≡◌ {A = Text × (Text × ℕ)} (a.name, (a.value, operator_rank a.operator)) (b.name, (b.value, operator_rank b.operator)) =
    exact_pairs text_cmp (λ (x y : Text × ℕ). ordering_then (text_cmp x.0 y.0) (nat_cmp x.1 y.1)) exact_bytes (exact_pairs text_cmp nat_cmp exact_bytes exact_unsigned)
    (a.name, (a.value, operator_rank a.operator)) (b.name, (b.value, operator_rank b.operator)) tie in
    let operators : a.operator ≡ b.operator =
    sym (operator_at_its_rank a.operator) ∙ ap (λ (x : Text × (Text × ℕ)). operator_at x.1.1) parts ∙ operator_at_its_rank b.operator in
    λ i. record { name = (parts i).0; operator = operators i; value = (parts i).1.0 }
