-- Asking one silence after the other lists the silences of each label set.
use Rattle.std.proofs.Common.{◌≡◌, ℕ, suc, ◌+◌, ◌<◌, Bool, false, cond, List, [], ◌∷◌, ◌++◌, map, length, take, set, get_or, arith, add-one}
use Rattle.std.proofs.lemmas.Grind.{common_steps, take_at_read}
use Rattle.amr_labels.specs.Labels.{LabelSet}
use Rattle.amr_labels.specs.Matcher.Candidates.{matches_each}
use Rattle.amr_time.specs.Time.{Moment}
use Rattle.amr_rules.specs.declared.silence.Silence.{Silence}
use Rattle.amr_rules.specs.declared.silence_period.SilencePeriod.{SilencePeriod}
use Rattle.amr_rules.specs.Silences.{is_expired_at}
use Rattle.amr_rules.specs.SilencePeriods.{period_of, added_where, periods_among}

-- after one more silence, which is asked about each label set unless it is expired
pub asked_more : (from : Moment) (listed : List (ℕ × Silence)) (index : ℕ) (stored : ℕ × Silence) → index < length listed → get_or listed index stored ≡ stored → (label_sets : List LabelSet)
    → cond (is_expired_at from stored.1) (map (λ labels. periods_among from labels (take index listed)) label_sets)
    (added_where (period_of stored) (matches_each stored.1.matchers label_sets) (map (λ labels. periods_among from labels (take index listed)) label_sets))
    ≡ map (λ labels. periods_among from labels (take (index + 1) listed)) label_sets
asked_more from listed index stored lt is [] = grind arith
asked_more from listed index stored lt is (labels ∷ label_sets) = grind (arith, common_steps, asked_more from listed index stored lt is label_sets, take_at_read listed index stored)

-- ---- one more label set

module _ (period : SilencePeriod) where
  -- those of the label set at an index take it in, if it matches
  abbrev added_at : Bool → List (List SilencePeriod) → ℕ → List SilencePeriod → List (List SilencePeriod)
  added_at is_match each index none = cond is_match (set each index (get_or each index none ++ period ∷ [])) each

  added_next : (matches : List Bool) (each : List (List SilencePeriod)) (index : ℕ) (none : List SilencePeriod)
      → index < length matches → length each ≡ length matches
      → added_where period (take (suc index) matches) each ≡ added_at (get_or matches index false) (added_where period (take index matches) each) index none
  added_next (is_match ∷ matches) (first ∷ each) (suc index) none lt same = grind (arith, added_next matches each index none)
  added_next matches each index none lt same = grind arith

  pub one_added : (matches : List Bool) (each so_far : List (List SilencePeriod)) (index : ℕ) (is_match : Bool) (none : List SilencePeriod)
      → index < length matches → length each ≡ length matches → so_far ≡ added_where period (take index matches) each → get_or matches index false ≡ is_match
      → added_at is_match so_far index none ≡ added_where period (take (index + 1) matches) each
  one_added matches each so_far index is_match none lt same so_far_is is_match_is =
      rw (so_far_is, ← is_match_is, add-one) (rw (added_next matches each index none lt same))
