-- Asking one matcher after the other is asking all of them.
use Rattle.std.proofs.Common.{◌≡◌, ℕ, zero, suc, ◌+◌, ◌<◌, Bool, false, ◌&&◌, List, [], ◌∷◌, map, length, take, set, get_or, refl, ap, ◌∙◌, arith, add-one, ◌==◌, bit_or}
use Rattle.std.proofs.Math.Bool.{and_assoc, and-true}
use Rattle.std.specs.List.{list_any}
use Rattle.std.proofs.lemmas.Bool.Decides.{nat_tests}
use Rattle.amr_labels.specs.Labels.{LabelSet}
use Rattle.amr_labels.specs.Matcher.Matchers.{Matcher, holds, all_hold}
use Rattle.amr_labels.specs.Matcher.Candidates.{candidates_by_bits, candidates_after, kept_by, kept_by_all, matches_each}
use Rattle.amr_labels.specs.Matcher.ValueBits.{value_bits, required_bits}
use Rattle.amr_labels.proofs.MatcherLemmas.ValueBits.{matching_marked}

-- a test of label sets with what is known of them
kept_more : (test known : LabelSet → Bool) (label_sets : List LabelSet)
    → candidates_after test label_sets (map known label_sets) ≡ map (λ labels. known labels && test labels) label_sets
kept_more test known [] = refl
kept_more test known (labels ∷ label_sets) = λ i. (known labels && test labels) ∷ kept_more test known label_sets i

-- the label set's values have the bits that the matchers ask for
abbrev has_bits : List Matcher → LabelSet → Bool
has_bits matchers labels = bit_or (value_bits labels) (required_bits matchers) == value_bits labels

have_bits : (matchers : List Matcher) (label_sets : List LabelSet)
    → candidates_by_bits (required_bits matchers) (map value_bits label_sets) ≡ map (has_bits matchers) label_sets
have_bits matchers [] = refl
have_bits matchers (labels ∷ label_sets) = ap (λ candidates. has_bits matchers labels ∷ candidates) (have_bits matchers label_sets)

-- that test changes nothing of the answer of all matchers
bits_besides : (matchers : List Matcher) (labels : LabelSet) → (has_bits matchers labels && all_hold matchers labels) ≡ all_hold matchers labels
bits_besides matchers labels = grind (arith, nat_tests, matching_marked labels matchers)

pub asked_each : (matchers : List Matcher) (label_sets : List LabelSet)
    → kept_by_all matchers label_sets (candidates_by_bits (required_bits matchers) (map value_bits label_sets))
    ≡ matches_each matchers label_sets
asked_each matchers label_sets =
    ap (kept_by_all matchers label_sets) (have_bits matchers label_sets)
    ∙ kept_more (all_hold matchers) (has_bits matchers) label_sets
    ∙ (λ i. map (λ labels. bits_besides matchers labels i) label_sets)

-- no label set is left, so a test changes nothing
pub tested_in_vain : (test : LabelSet → Bool) (label_sets : List LabelSet) (candidates : List Bool) → list_any (λ mark. mark) candidates ≡ false
    → candidates_after test label_sets candidates ≡ candidates
tested_in_vain test [] candidates none = refl
tested_in_vain test (labels ∷ label_sets) [] none = refl
tested_in_vain test (labels ∷ label_sets) (mark ∷ candidates) none = grind (arith, tested_in_vain test label_sets candidates)

-- no matcher is left, so all stay
pub kept_by_none : (label_sets : List LabelSet) (candidates : List Bool) → kept_by_all [] label_sets candidates ≡ candidates
kept_by_none [] candidates = refl
kept_by_none (labels ∷ label_sets) [] = refl
kept_by_none (labels ∷ label_sets) (mark ∷ candidates) = λ i. and-true mark i ∷ kept_by_none label_sets candidates i

-- the first matcher is asked, then the others
pub kept_by_first : (matcher : Matcher) (matchers : List Matcher) (label_sets : List LabelSet) (candidates : List Bool)
    → kept_by_all matchers label_sets (kept_by matcher label_sets candidates) ≡ kept_by_all (matcher ∷ matchers) label_sets candidates
kept_by_first matcher matchers [] candidates = refl
kept_by_first matcher matchers (labels ∷ label_sets) [] = refl
kept_by_first matcher matchers (labels ∷ label_sets) (mark ∷ candidates) =
    λ i. and_assoc mark (holds matcher labels) (all_hold matchers labels) i ∷ kept_by_first matcher matchers label_sets candidates i

-- the mark at an index is changed after those before it
mark_next : (test : LabelSet → Bool) (label_sets : List LabelSet) (candidates : List Bool) (index : ℕ) (labels : LabelSet)
    → index < length label_sets → length candidates ≡ length label_sets
    → set (candidates_after test (take index label_sets) candidates) index (get_or (candidates_after test (take index label_sets) candidates) index false && test (get_or label_sets index labels))
    ≡ candidates_after test (take (suc index) label_sets) candidates
mark_next test [] candidates index labels lt same = absurd (omega (arith, lt))
mark_next test (first ∷ label_sets) [] index labels lt same = absurd (omega (arith, same))
mark_next test (first ∷ label_sets) (mark ∷ candidates) zero labels lt same = refl
mark_next test (first ∷ label_sets) (mark ∷ candidates) (suc index) labels lt same =
    ap (λ kept. (mark && test first) ∷ kept) (mark_next test label_sets candidates index labels (omega (arith, lt)) (omega (arith, same)))

pub marked_more : (test : LabelSet → Bool) (label_sets : List LabelSet) (candidates so_far : List Bool) (index : ℕ) (mark : Bool) (labels : LabelSet)
    → index < length label_sets → length candidates ≡ length label_sets → so_far ≡ candidates_after test (take index label_sets) candidates
    → labels ≡ get_or label_sets index labels → mark ≡ (get_or so_far index false && test labels)
    → set so_far index mark ≡ candidates_after test (take (index + 1) label_sets) candidates
marked_more test label_sets candidates so_far index mark labels lt same is there changed =
    rw (changed, is, there, add-one) (mark_next test label_sets candidates index labels lt same)
