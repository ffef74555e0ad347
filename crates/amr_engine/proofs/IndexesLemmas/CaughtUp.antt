-- What is cached of a label set after it has taken in that a silence changed.
use Rattle.std.proofs.Common.{IfSome, [], ◌≡◌, ◌≤◌, ◌<◌, ◌+◌, ℕ, true, false, if◌then◌else◌, List, ◌∷◌, ◌++◌, length, get_or, Option, Some, None, arith, refl, sym, ap, subst, ◌∙◌}
use Rattle.std.specs.List.{filter, cons_option}
use Rattle.std.specs.Ordering.{nat_cmp, eq_by_cmp}
use Rattle.std.specs.FinMap.{nat_cmp-IsAntisymmetric}
use Rattle.std.proofs.lemmas.Bool.Decides.{nat_tests}
use Rattle.std.proofs.lemmas.List.{get_or_default}
use Rattle.std.proofs.lemmas.Map.Views.{tells_apart}
use Rattle.amr_labels.specs.Map.{get}
use Rattle.amr_labels.specs.Labels.{LabelSet}
use Rattle.amr_labels.specs.Matcher.ValueBits.{value_bits}
use Rattle.amr_labels.proofs.MatcherLemmas.ValueBits.{matching_marked}
use Rattle.amr_time.specs.Time.{Moment}
use Rattle.amr_rules.specs.declared.silence.Silence.{Silence}
use Rattle.amr_rules.specs.declared.silence_period.SilencePeriod.{SilencePeriod}
use Rattle.amr_rules.specs.Silences.{Silences}
use Rattle.amr_rules.specs.SilencePeriods.{period_from, periods_of}
use Rattle.amr_engine.specs.declared.indexes.cached_periods.CachedPeriods.{CachedPeriods}
use Rattle.amr_engine.specs.declared.indexes.silence_change.SilenceChange.{SilenceChange}
use Rattle.amr_engine.specs.Indexes.CachedSilences.{ends_after, without_silence, noted_period, change_of, may_concern, IsUnchanged, AreNoted, IsCached}

-- ---- the periods of one silence, when a silence has another period

of_other : (id other : ℕ) → eq_by_cmp nat_cmp id other ≡ false → (periods : List SilencePeriod) → periods_of id (without_silence other periods) ≡ periods_of id periods
of_other id other h [] = refl
of_other id other h (p ∷ ps) = grind (arith, nat_tests, of_other id other h ps)

of_each : (id other : ℕ) (q : Option SilencePeriod) → IfSome q (λ p. p.id ≡ other) → (periods : List SilencePeriod)
    → periods_of id (without_silence other periods ++ cons_option q []) ≡ (if eq_by_cmp nat_cmp id other then cons_option q [] else periods_of id periods)
of_each id other q own [] = grind (arith, nat_tests)
of_each id other q own (p ∷ ps) = grind (arith, nat_tests, of_each id other q own ps)

-- ---- a change of a silence that can't mute the labels

-- it has no period that isn't over
no_period : (from : Moment) (labels : LabelSet) (bits id : ℕ) (found : Option Silence) → bits ≡ value_bits labels → may_concern from bits (change_of id found) ≡ false
    → period_from from labels id found ≡ None
no_period from labels bits id None marked passed = refl
no_period from labels bits id (Some silence) marked passed = grind (arith, nat_tests, matching_marked labels silence.matchers)

-- what is noted of the latest change of a silence leaves out no period
noted_all : (silences : Silences) (change : SilenceChange) (found : CachedPeriods) → found.bits ≡ value_bits found.labels → change ≡ change_of change.id (get silences change.id)
    → noted_period silences change found ≡ period_from found.from found.labels change.id (get silences change.id)
noted_all silences change found marked own = grind (arith, own, no_period found.from found.labels found.bits change.id (get silences change.id) marked)

-- a silence of which neither a change nor a later one is
unchanged_from : (changes : List SilenceChange) (version id : ℕ) (change : SilenceChange) → get_or changes version change ≡ change → eq_by_cmp nat_cmp id change.id ≡ false
    → IsUnchanged changes (version + 1) id → IsUnchanged changes version id
unchanged_from changes version id change is other none i one le lt at = grind (arith, nat_tests, get_or_default changes i one change, none i one)

-- ---- the next change is taken in

module _ (silences : Silences) (changes : List SilenceChange) (found : CachedPeriods) (change : SilenceChange) (after : CachedPeriods) (cached : IsCached silences changes found)
    (more : found.version < length changes) (is_change : get_or changes found.version change ≡ change) where
  -- at first the period of the silence is left out
  pub left_out_one : after ≡ record found { periods = without_silence change.id found.periods } → IsCached silences changes after
  left_out_one is = subst (λ (k : CachedPeriods). IsCached silences changes k) (sym is) (record {
    version = cached.version;
    bits = cached.bits;
    listed = λ id none. of_other id change.id (none found.version change (omega arith) more is_change) found.periods ∙ cached.listed id none;
  })

  pub caught_up : AreNoted silences changes
      → after ≡ record found { version = found.version + 1; periods = without_silence change.id found.periods ++ cons_option (noted_period silences change found) [] }
      → IsCached silences changes after
  caught_up noted_so is = subst (λ (k : CachedPeriods). IsCached silences changes k) (sym is) (record {
    version = omega arith;
    bits = cached.bits;
    listed = λ id none.
        let other = λ (o : eq_by_cmp nat_cmp id change.id ≡ false). cached.listed id (unchanged_from changes found.version id change is_change o none) in
        let same = λ (o : eq_by_cmp nat_cmp id change.id ≡ true). tells_apart nat_cmp-IsAntisymmetric id change.id o in
        let latest = λ (e : id ≡ change.id). noted_all silences change found cached.bits (noted_so.latest found.version change more is_change (subst (IsUnchanged changes (found.version + 1)) e none)) in
        grind (arith, nat_tests, of_each id change.id (noted_period silences change found) (grind arith) found.periods, other, same, latest);
  })

-- ---- what has ended is left out

module _ (at : Moment) where
  sooner_or_later : (id : ℕ) (periods : List SilencePeriod) → periods_of id (filter (ends_after at) periods) ≡ filter (ends_after at) (periods_of id periods)
  sooner_or_later id [] = refl
  sooner_or_later id (p ∷ ps) = grind (arith, sooner_or_later id ps)

  later : (from : Moment) (labels : LabelSet) (id : ℕ) (silence : Option Silence) → from ≤ at
      → filter (ends_after at) (cons_option (period_from from labels id silence) []) ≡ cons_option (period_from at labels id silence) []
  later from labels id silence le = grind (arith, nat_tests)

  pub left_out : (silences : Silences) (changes : List SilenceChange) (found after : CachedPeriods) → IsCached silences changes found → found.from ≤ at
      → after ≡ record found { from = at; periods = filter (ends_after at) found.periods } → IsCached silences changes after
  left_out silences changes found after cached le is = subst (λ (k : CachedPeriods). IsCached silences changes k) (sym is) (record {
    version = cached.version;
    bits = cached.bits;
    listed = λ id none. sooner_or_later id found.periods ∙ ap (filter (ends_after at)) (cached.listed id none) ∙ later found.from found.labels id (get silences id) le;
  })
