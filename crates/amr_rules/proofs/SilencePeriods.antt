-- The least silence whose period covers a moment is the one that mutes the labels.
use Rattle.std.proofs.Common.{◌≡◌, ◌≤◌, ℕ, Bool, false, List, [], ◌∷◌, option_map, Option, None, Some, T, arith, refl, sym, ap, subst, ◌∙◌}
use Rattle.std.specs.List.{find, list_any, cons_option}
use Rattle.std.specs.Ordering.{nat_cmp}
use Rattle.std.specs.FinMap as map
use Rattle.std.specs.FinMap.Entries.{below_all, is_sorted}
use Rattle.std.proofs.lemmas.Bool.Decides.{nat_tests}
use Rattle.amr_labels.specs.Map.{entries, get, entries-sorted, get-entries}
use Rattle.amr_labels.specs.Labels.{LabelSet}
use Rattle.amr_time.specs.Time.{Moment}
use Rattle.amr_rules.specs.declared.silence.Silence.{Silence}
use Rattle.amr_rules.specs.declared.silence_period.SilencePeriod.{SilencePeriod}
use Rattle.amr_rules.specs.Silences.{Silences}
use Rattle.amr_rules.specs.Muting.{silences_labels, silencer_of}
use Rattle.amr_rules.specs.SilencePeriods.{period_from, periods_of, periods_among, silence_periods, covers, is_active_in, IsLeastId, IsListed}

pub one_least : (test : ℕ → Bool) (a b : Option ℕ) → IsLeastId test a → IsLeastId test b → a ≡ b
one_least test a b is_a is_b = grind (arith, is_a, is_b)

-- ---- the silences in the order of their ids

none_below : {X : Type 0} (id x : ℕ) (es : List (ℕ × X)) → T (below_all nat_cmp id es) → x ≤ id → map.find nat_cmp x es ≡ None
none_below id x [] h le = refl
none_below id x (e ∷ es) h le = grind (arith, nat_tests, none_below id x es)

module _ (now : Moment) (labels : LabelSet) where
  abbrev mutes : Option Silence → Bool
  mutes None = false
  mutes (Some silence) = silences_labels now silence labels

  first_least : (es : List (ℕ × Silence)) → T (is_sorted nat_cmp es)
      → IsLeastId (λ x. mutes (map.find nat_cmp x es)) (option_map (λ e. e.0) (find (λ e. silences_labels now e.1 labels) es))
  first_least [] h = λ x. refl
  first_least (e ∷ es) h = grind (arith, nat_tests, first_least es, λ (x : ℕ). none_below e.0 x es)

-- ---- the periods in any order

covers_alike : (now from : Moment) (labels : LabelSet) (id : ℕ) (found : Option Silence) → from ≤ now → list_any (covers now) (cons_option (period_from from labels id found) []) ≡ mutes now labels found
covers_alike now from labels id found le = grind (arith, nat_tests)

pub silencer_in : (now from : Moment) (labels : LabelSet) (silences : Silences) (periods : List SilencePeriod) → from ≤ now → ((id : ℕ) → IsListed from labels silences periods id)
    → IsLeastId (is_active_in now periods) (silencer_of now labels silences)
silencer_in now from labels silences periods le listed =
    let same : (λ x. is_active_in now periods x) ≡ (λ x. mutes now labels (map.find nat_cmp x (entries silences))) = λ i x.
    (ap (list_any (covers now)) (listed x) ∙ covers_alike now from labels x (get silences x) le ∙ ap (mutes now labels) (get-entries silences x)) i in
    subst (λ (test : ℕ → Bool). IsLeastId test (silencer_of now labels silences)) (sym same) (first_least now labels (entries silences) (entries-sorted silences))

-- ---- the list of the periods has that of each silence

among : (from : Moment) (labels : LabelSet) (id : ℕ) (es : List (ℕ × Silence)) → T (is_sorted nat_cmp es)
    → periods_of id (periods_among from labels es) ≡ cons_option (period_from from labels id (map.find nat_cmp id es)) []
among from labels id [] h = refl
among from labels id (e ∷ es) h = grind (arith, nat_tests, among from labels id es, none_below e.0 id es)

pub listed : (from : Moment) (labels : LabelSet) (silences : Silences) (id : ℕ) → IsListed from labels silences (silence_periods from labels silences) id
listed from labels silences id =
    among from labels id (entries silences) (entries-sorted silences) ∙ ap (λ (found : Option Silence). cons_option (period_from from labels id found) []) (sym (get-entries silences id))
