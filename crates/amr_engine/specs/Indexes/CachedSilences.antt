-- What the table of silences caches of label sets.
use Rattle.std.specs.Prelude.{◌≡◌, ◌≢◌, ◌≤◌, ◌<◌, ℕ, Bool, false, not, List, ◌+◌, length, get_or, Option, Some, None, IfSome, if◌then◌else◌, nat_lt, ◌&&◌, ◌==◌, bit_or}
use Rattle.std.specs.List.{All, filter}
use Rattle.std.specs.Ordering.{nat_cmp, eq_by_cmp}
use Rattle.amr_labels.specs.Map.{get}
use Rattle.amr_labels.specs.Matcher.ValueBits.{value_bits, required_bits}
use Rattle.amr_time.specs.Time.{Moment}
use Rattle.amr_rules.specs.declared.silence.Silence.{Silence}
use Rattle.amr_rules.specs.declared.silence_period.SilencePeriod.{SilencePeriod}
use Rattle.amr_rules.specs.Silences.{Silences}
use Rattle.amr_rules.specs.SilencePeriods.{period_from, unexpired_silences, IsListed}
use Rattle.amr_engine.specs.declared.indexes.cached_periods.CachedPeriods.{CachedPeriods}
use Rattle.amr_engine.specs.declared.indexes.silence_change.SilenceChange.{SilenceChange}
use Rattle.amr_engine.specs.declared.indexes.silence_table.Unexpired.{Unexpired}

-- the period goes on after the moment
abbrev pub ends_after : Moment → SilencePeriod → Bool
ends_after at period = nat_lt at period.ends_at

-- the periods of the other silences
abbrev pub without_silence : ℕ → List SilencePeriod → List SilencePeriod
without_silence id = filter (λ period. not (eq_by_cmp nat_cmp id period.id))

-- what is noted of a change: the end of the silence, if there is one now, and the bits of the
-- values that its matchers ask for
abbrev pub change_of : ℕ → Option Silence → SilenceChange
change_of id None = record { id = id; ends_at = 0; required = 0 }
change_of id (Some silence) = record { id = id; ends_at = silence.ends_at; required = required_bits silence.matchers }

-- the bits of the values that the silence asks for are among these, and it goes on after the moment
abbrev pub may_concern : Moment → ℕ → SilenceChange → Bool
may_concern from bits change = bit_or bits change.required == bits && nat_lt from change.ends_at

-- when the silence that changed mutes the labels, if it may
abbrev pub noted_period : Silences → SilenceChange → CachedPeriods → Option SilencePeriod
noted_period silences change cached =
    if may_concern cached.from cached.bits change then period_from cached.from cached.labels change.id (get silences change.id) else None

-- from an index on no change is of the silence with this id
abbrev pub IsUnchanged : List SilenceChange → ℕ → ℕ → Type 0
IsUnchanged changes version id =
    (i : ℕ) (change : SilenceChange) → version ≤ i → i < length changes → get_or changes i change ≡ change → eq_by_cmp nat_cmp id change.id ≡ false

-- each change says how the silence is now, unless the same silence changed again later
pub record AreNoted (silences : Silences) (changes : List SilenceChange) : Type 0 where
  pub latest : (i : ℕ) (change : SilenceChange) → i < length changes → get_or changes i change ≡ change
      → IsUnchanged changes (i + 1) change.id → change ≡ change_of change.id (get silences change.id)

-- the periods are those of the silences that may mute the labels, but for silences that changed
-- since they were cached
pub record IsCached (silences : Silences) (changes : List SilenceChange) (found : CachedPeriods) : Type 0 where
  pub version : found.version ≤ length changes
  pub bits : found.bits ≡ value_bits found.labels
  pub listed : (id : ℕ) → IsUnchanged changes found.version id → IsListed found.from found.labels silences found.periods id

-- all that is cached of label sets is right
abbrev pub AreCached : Silences → List SilenceChange → List (Option CachedPeriods) → Type 0
AreCached silences changes cached = All (λ place. IfSome place (IsCached silences changes)) cached

-- only the silence with this id may have changed
abbrev pub SameOthers : ℕ → Silences → Silences → Type 0
SameOthers id old changed = (other : ℕ) → other ≢ id → get changed other ≡ get old other

-- if silences are listed, they are those that aren't expired at the moment of the list
abbrev pub AreUnexpired : Silences → Option Unexpired → Type 0
AreUnexpired silences None = Unit {0}
AreUnexpired silences (Some kept) = kept.listed.items ≡ unexpired_silences kept.from silences
