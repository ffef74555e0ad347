-- What the table of silences caches of label sets: nothing at first, then more, and less after
-- each change of a silence.
use Rattle.std.proofs.Common.{IfSome, filter_map, [], ◌≡◌, ◌≢◌, ◌≤◌, ◌<◌, ◌+◌, ℕ, List, ◌∷◌, ◌++◌, length, Bor, Option, Some, None, arith, refl, sym, ap, subst, ◌∙◌, length-append}
use Rattle.std.proofs.lemmas.Bool.Decides.{nat_tests}
use Rattle.std.proofs.Math.ListN.{get_or-append}
use Rattle.std.proofs.Math.Seq.{get_or-append_seam}
use Rattle.std.specs.List.{cons_option}
use Rattle.std.specs.Slice.{IsItemAt}
use Rattle.std.proofs.lemmas.List.Elements.{All-nil, All-weaker}
use Rattle.std.specs.Ordering.{nat_cmp}
use Rattle.std.specs.Cmp.{nat_cmp_total}
use Rattle.std.specs.FinMap.{nat_cmp-IsAntisymmetric}
use Rattle.std.proofs.lemmas.Map.Views.{tells_apart}
use Rattle.amr_labels.specs.Map.{entries, empty, from_sorted, entries-from_sorted, same_entries_map, get, set, get-set}
use Rattle.amr_labels.specs.Labels.{LabelSet}
use Rattle.amr_labels.specs.Matcher.ValueBits.{value_bits}
use Rattle.amr_tables.specs.Numbered.{Numbered, map_of, entry_at}
use Rattle.amr_time.specs.Time.{Moment}
use Rattle.amr_rules.specs.declared.silence.Silence.{Silence}
use Rattle.amr_rules.specs.Silences.{Silences}
use Rattle.amr_rules.specs.Muting.{silencer_of}
use Rattle.amr_rules.specs.SilencePeriods.{periods_of, period_from, silence_periods, IsListed}
use Rattle.amr_rules.proofs.SilencePeriods.{listed}
use Rattle.amr_engine.specs.declared.indexes.cached_periods.CachedPeriods.{CachedPeriods}
use Rattle.amr_engine.specs.declared.indexes.silence_change.SilenceChange.{SilenceChange}
use Rattle.amr_engine.specs.Indexes.CachedSilences.{change_of, IsUnchanged, AreNoted, IsCached, AreCached, SameOthers}

-- setting a silence changes no other
set_others : (id : ℕ) (old : Silences) (silence : Option Silence) → SameOthers id old (set old id silence)
set_others id old silence = λ other apart. grind (arith, get-set nat_cmp_total old id silence other, tells_apart nat_cmp-IsAntisymmetric other id)

noted_id : (id : ℕ) (silence : Option Silence) → (change_of id silence).id ≡ id
noted_id id silence = grind arith

-- what is noted of a silence that is set is so
pub noted_right : (change : SilenceChange) (id : ℕ) (old changed : Silences) (silence : Option Silence) → change ≡ change_of id silence → changed ≡ set old id silence
    → SameOthers change.id old changed × (change ≡ change_of change.id (get changed change.id))
noted_right change id old changed silence is set_to = grind (arith, nat_tests, noted_id id silence, set_others id old silence, get-set nat_cmp_total old id silence id)

-- ---- one more change

-- a silence that didn't change isn't the one that changed last, and didn't change before
unchanged_before : (changes : List SilenceChange) (change : SilenceChange) (version id : ℕ) → version ≤ length changes → IsUnchanged (changes ++ change ∷ []) version id
    → IsUnchanged changes version id × (id ≢ change.id)
unchanged_before changes change version id le none = (
  λ i one after lt is. grind (arith, length-append changes (change ∷ []), get_or-append changes (change ∷ []) one i, none i one),
  grind (arith, nat_tests, length-append changes (change ∷ []), get_or-append_seam changes change [] change, none (length changes) change),
)

-- what is cached of silences stays cached, but for the one that changed
one_less : (old changed : Silences) (changes : List SilenceChange) (change : SilenceChange) → SameOthers change.id old changed → (found : CachedPeriods) → IsCached old changes found
    → IsCached changed (changes ++ change ∷ []) found
one_less old changed changes change same found was = record {
  version = omega (arith, was.version, length-append changes (change ∷ []));
  bits = was.bits;
  listed = λ id none.
      let before = unchanged_before changes change found.version id was.version none in
      was.listed id before.0 ∙ ap (λ (silence : Option Silence). cons_option (period_from found.from found.labels id silence) []) (sym (same id before.1));
}

still_at : (old changed : Silences) (changes : List SilenceChange) (change : SilenceChange) → SameOthers change.id old changed → (place : Option CachedPeriods) → IfSome place (IsCached old changes)
    → IfSome place (IsCached changed (changes ++ change ∷ []))
still_at old changed changes change same place was = grind (arith, one_less old changed changes change same)

pub cached_still : (old changed : Silences) (changes : List SilenceChange) (cached : List (Option CachedPeriods)) (change : SilenceChange) → SameOthers change.id old changed
    → AreCached old changes cached → AreCached changed (changes ++ change ∷ []) cached
cached_still old changed changes cached change same are_cached = All-weaker _ _ (still_at old changed changes change same) cached are_cached

-- what was noted of other silences is so still, and what is noted of this one is so
pub noted_more : (old changed : Silences) (changes : List SilenceChange) (change : SilenceChange) → SameOthers change.id old changed
    → change ≡ change_of change.id (get changed change.id) → AreNoted old changes → AreNoted changed (changes ++ change ∷ [])
noted_more old changed changes change same own was = record {
  latest = λ i one lt is none.
      let others = λ (before : i < length changes). unchanged_before changes change (i + 1) one.id (omega arith) none in
      grind (arith, nat_tests, length-append changes (change ∷ []), get_or-append_seam changes change [] one, get_or-append changes (change ∷ []) one i, others, was.latest i one, same one.id);
}

pub none_noted : (silences : Silences) (changes : List SilenceChange) → changes ≡ [] → AreNoted silences changes
none_noted silences changes none = record { latest = λ i one lt is later. let before : i < 0 = subst (λ (l : List SilenceChange). i < length l) none lt in absurd (omega arith) }

pub none_cached : (silences : Silences) (changes : List SilenceChange) (cached : List (Option CachedPeriods)) → cached ≡ [] → AreCached silences changes cached
none_cached silences changes cached none = subst (AreCached silences changes) (sym none) (All-nil (λ place. IfSome place (IsCached silences changes)))

-- what is found at a place is right
pub cached_found : (silences : Silences) (changes : List SilenceChange) (cached : List (Option CachedPeriods)) (n : ℕ) (place : Bor (Option CachedPeriods)) (found : CachedPeriods)
    → AreCached silences changes cached → IsItemAt cached n (Some place) → place.now ≡ Some found → IsCached silences changes found
cached_found silences changes cached n place found are_cached at some =
    let right : Option CachedPeriods → Type 0 = λ place. IfSome place (IsCached silences changes) in
    subst right some (subst right (sym (at.4 (omega arith) None)) (are_cached n None at.3.0))

-- what was worked out just now is cached
pub filled : (silences : Silences) (changes : List SilenceChange) (found : CachedPeriods) → found.periods ≡ silence_periods found.from found.labels silences → found.version ≡ length changes
    → found.bits ≡ value_bits found.labels → IsCached silences changes found
filled silences changes found is version marked = record { version = omega arith; bits = marked; listed = λ id none. ap (periods_of id) is ∙ listed found.from found.labels silences id }

-- if all changes were seen, the periods are those of the silences
pub all_seen : (silences : Silences) (changes : List SilenceChange) (found : CachedPeriods) → IsCached silences changes found → found.version ≡ length changes
    → (id : ℕ) → IsListed found.from found.labels silences found.periods id
all_seen silences changes found cached version id = cached.listed id (λ i change le lt is. absurd (omega arith))

-- ---- without places for silences there are none

nothing_at : (cells : List (Option Silence)) → length cells ≡ 0 → (ns : List (ℕ × ℕ)) → filter_map (entry_at cells) ns ≡ []
nothing_at [] none [] = refl
nothing_at [] none (n ∷ ns) = nothing_at [] none ns
nothing_at (cell ∷ cells) none ns = absurd (omega arith)

no_silences : (t : Numbered ℕ Silence) → length t.cells ≡ 0 → map_of nat_cmp t ≡ empty
unfolding map_of entries empty
no_silences t none = ap (from_sorted {R = nat_cmp}) (nothing_at t.cells none t.numbers) ∙ same_entries_map _ _ (entries-from_sorted nat_cmp [] tt)

pub no_silencer : (t : Numbered ℕ Silence) (at : Moment) (labels : LabelSet) → length t.cells ≡ 0 → None ≡ silencer_of at labels (map_of nat_cmp t)
unfolding entries empty
no_silencer t at labels none = ap (silencer_of at labels) (sym (no_silences t none))
