-- Label sets of which a list of matchers is asked one matcher after the other.
use Rattle.std.specs.Prelude.{ℕ, Bool, ◌==◌, ◌&&◌, not, List, [], ◌∷◌, map, bit_or, if◌then◌else◌}
use Rattle.std.specs.Ordering.{eq_by_cmp}
use Rattle.amr_labels.specs.Labels.{LabelSet, Text, text_cmp, value_of}
use Rattle.amr_labels.specs.Matcher.Patterns.{pattern_matches}
use Rattle.amr_labels.specs.Matcher.Matchers.{Matcher, holds, all_hold}

-- which label sets are candidates at first: those whose values have the bits that are required
abbrev pub candidates_by_bits : ℕ → List ℕ → List Bool
candidates_by_bits required bits = map (λ own. bit_or own required == own) bits

-- which label sets are candidates, where those alone stay so that pass the test too
abbrev pub candidates_after : (LabelSet → Bool) → List LabelSet → List Bool → List Bool
candidates_after test (labels ∷ label_sets) (candidate ∷ candidates) = (candidate && test labels) ∷ candidates_after test label_sets candidates
candidates_after test [] candidates = candidates
candidates_after test (labels ∷ label_sets) [] = []

-- the matcher matches them too
abbrev pub kept_by : Matcher → List LabelSet → List Bool → List Bool
kept_by matcher = candidates_after (holds matcher)

-- all these matchers match them too
abbrev pub kept_by_all : List Matcher → List LabelSet → List Bool → List Bool
kept_by_all matchers = candidates_after (all_hold matchers)

-- the label with this name is compared too
abbrev pub kept_where : (Text → Bool) → Text → List LabelSet → List Bool → List Bool
kept_where test name = candidates_after (λ labels. test (value_of labels name))

-- whether a pattern matches a value, or whether it doesn't
abbrev pub found_or_not : Bool → Text → Text → Bool
found_or_not negated pattern value = if negated then not (pattern_matches pattern value) else pattern_matches pattern value

-- whether a matcher's own value equals a value, or whether it doesn't
abbrev pub equal_or_not : Bool → Text → Text → Bool
equal_or_not negated own value = if negated then not (eq_by_cmp text_cmp value own) else eq_by_cmp text_cmp value own

-- for each label set whether all matchers match it
abbrev pub matches_each : List Matcher → List LabelSet → List Bool
matches_each matchers label_sets = map (all_hold matchers) label_sets
