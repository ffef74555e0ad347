-- Matchers that match a label set ask for no bit that its values don't have.
use Rattle.std.proofs.Common.{◌≡◌, ℕ, true, false, List, [], ◌∷◌, Option, arith, sym, ap, subst, ◌∙◌, fold, bit_or, unwrap_or}
use Rattle.std.specs.FinMap.{find}
use Rattle.std.specs.Int.Bits.{or_self, or_zero_l}
use Rattle.std.proofs.lemmas.Bool.{and_parts}
use Rattle.std.proofs.lemmas.Bool.Decides.{nat_tests}
use Rattle.std.proofs.lemmas.Map.Views.{tells_apart}
use Rattle.std.proofs.lemmas.Nat.{or_comm}
use Rattle.std.proofs.lemmas.Nat.Bits.{bit_at_or, same_from_bits}
use Rattle.amr_labels.specs.Map.{entries, get-entries}
use Rattle.amr_labels.specs.Labels.{Text, LabelSet, text_cmp, text_cmp-IsAntisymmetric, is_empty, value_of}
use Rattle.amr_labels.specs.Matcher.Matchers.{Matcher, holds, all_hold}
use Rattle.amr_labels.specs.Matcher.ValueBits.{value_bit, value_bits, required_bit, required_bits}

or_assoc : (a b c : ℕ) → bit_or (bit_or a b) c ≡ bit_or a (bit_or b c)
or_assoc a b c = same_from_bits _ _ (λ i. simp bit_at_or (grind (arith, nat_tests)))

-- the bits of a value are among these
abbrev within : ℕ → ℕ → Type 0
within bits some = bit_or bits some ≡ bits

-- bits that are there stay, whatever comes to them
within_more : (bits more some : ℕ) → within bits some → within (bit_or bits more) some
within_more bits more some h =
    cc (or_assoc bits more some, or_comm more some, or_assoc bits some more)

within_own : (bits some : ℕ) → within (bit_or bits some) some
within_own bits some = cc (or_assoc bits some some, or_self some)

within_both : (bits some more : ℕ) → within bits some → within bits more → within bits (bit_or some more)
within_both bits some more h k = cc (or_assoc bits some more)

-- ---- the bits of a label set have that of each value

stays : (some bits : ℕ) (labels : List (Text × Text)) → within bits some → within (fold (λ bits label. bit_or bits (value_bit label.1)) bits labels) some
stays some bits [] h = h
stays some bits (label ∷ labels) h = stays some (bit_or bits (value_bit label.1)) labels (within_more bits (value_bit label.1) some h)

abbrev or_empty : Option Text → Text
or_empty value = unwrap_or value []

found_marked : (name : Text) (bits : ℕ) (labels : List (Text × Text)) → is_empty (or_empty (find text_cmp name labels)) ≡ false
    → within (fold (λ bits label. bit_or bits (value_bit label.1)) bits labels) (value_bit (or_empty (find text_cmp name labels)))
found_marked name bits [] h = absurd (cc h)
found_marked name bits (label ∷ labels) h =
    grind (arith, stays (value_bit label.1) (bit_or bits (value_bit label.1)) labels (within_own bits (value_bit label.1)), found_marked name (bit_or bits (value_bit label.1)) labels)

value_bited : (labels : LabelSet) (name : Text) → is_empty (value_of labels name) ≡ false → within (value_bits labels) (value_bit (value_of labels name))
value_bited labels name h =
    subst (λ (found : Option Text). within (value_bits labels) (value_bit (or_empty found))) (sym (get-entries labels name))
    (found_marked name 0 (entries labels) (ap (λ (found : Option Text). is_empty (or_empty found)) (sym (get-entries labels name)) ∙ h))

-- ---- matchers that match ask for no other bits

none_asked : (bits : ℕ) → within bits 0
none_asked bits = or_comm bits 0 ∙ or_zero_l bits

asked_marked : (labels : LabelSet) (matcher : Matcher) → holds matcher labels ≡ true → within (value_bits labels) (required_bit matcher)
asked_marked labels matcher h =
    let own = tells_apart text_cmp-IsAntisymmetric (value_of labels matcher.name) matcher.value in
    grind (arith, own, value_bited labels matcher.name, none_asked (value_bits labels))

all_asked : (labels : LabelSet) (bits : ℕ) (matchers : List Matcher) → within (value_bits labels) bits → all_hold matchers labels ≡ true
    → within (value_bits labels) (fold (λ bits matcher. bit_or bits (required_bit matcher)) bits matchers)
all_asked labels bits [] h all = h
all_asked labels bits (matcher ∷ matchers) h all =
    let parts = and_parts (holds matcher labels) (all_hold matchers labels) all in
    all_asked labels (bit_or bits (required_bit matcher)) matchers
    (within_both (value_bits labels) bits (required_bit matcher) h (asked_marked labels matcher parts.0)) parts.1

-- the bits that matching matchers ask for are among those of the label set
pub matching_marked : (labels : LabelSet) (matchers : List Matcher) → all_hold matchers labels ≡ true → bit_or (value_bits labels) (required_bits matchers) ≡ value_bits labels
matching_marked labels matchers all = all_asked labels 0 matchers (none_asked (value_bits labels)) all
