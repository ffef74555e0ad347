-- From when to when the silences that match labels mute them, for a question that is asked at many
-- moments.
use Rattle.std.specs.Prelude.{◌≡◌, ◌≤◌, ℕ, Bool, true, false, not, ◌&&◌, List, [], ◌∷◌, ◌++◌, if◌then◌else◌, Option, None, Some, map, nat_le, nat_lt}
use Rattle.std.specs.List.{filter, list_any, cons_option}
use Rattle.std.specs.Ordering.{nat_cmp, eq_by_cmp}
use Rattle.amr_labels.specs.Map.{entries, get}
use Rattle.amr_labels.specs.Labels.{LabelSet}
use Rattle.amr_labels.specs.Matcher.Matchers.{all_hold}
use Rattle.amr_time.specs.Time.{Moment}
use Rattle.amr_rules.specs.declared.silence.Silence.{Silence}
use Rattle.amr_rules.specs.declared.silence_period.SilencePeriod.{SilencePeriod}
use Rattle.amr_rules.specs.Silences.{Silences, is_expired_at}

-- the silence isn't expired at this moment, and all its matchers match the labels
abbrev pub may_silence : Moment → LabelSet → Silence → Bool
may_silence from labels silence = not (is_expired_at from silence) && all_hold silence.matchers labels

-- the id of a stored silence, with its start and its end
abbrev pub period_of : ℕ × Silence → SilencePeriod
period_of stored = record { id = stored.0; starts_at = stored.1.starts_at; ends_at = stored.1.ends_at }

-- the periods of those of these silences that may mute the labels at this moment or later
abbrev pub periods_among : Moment → LabelSet → List (ℕ × Silence) → List SilencePeriod
periods_among from labels listed = map period_of (filter (λ stored. may_silence from labels stored.1) listed)

-- the periods of the silences that may mute the labels at this moment or later, in the order of ids
abbrev pub silence_periods : Moment → LabelSet → Silences → List SilencePeriod
silence_periods from labels silences = periods_among from labels (entries silences)

-- those of these silences that aren't expired at this moment
abbrev pub unexpired_of : Moment → List (ℕ × Silence) → List (ℕ × Silence)
unexpired_of from listed = filter (λ stored. not (is_expired_at from stored.1)) listed

-- the silences that aren't expired at this moment, in the order of ids
abbrev pub unexpired_silences : Moment → Silences → List (ℕ × Silence)
unexpired_silences from silences = unexpired_of from (entries silences)

-- the period of a silence follows those that each label set has which it matches
abbrev pub added_where : SilencePeriod → List Bool → List (List SilencePeriod) → List (List SilencePeriod)
added_where period (matches ∷ more) (periods ∷ each) = (if matches then periods ++ period ∷ [] else periods) ∷ added_where period more each
added_where period (matches ∷ more) [] = []
added_where period [] each = each

-- a period goes from its start to just before its end
abbrev pub covers : Moment → SilencePeriod → Bool
covers now period = nat_le period.starts_at now && nat_lt now period.ends_at

-- the periods of the silence with this id
abbrev pub periods_of : ℕ → List SilencePeriod → List SilencePeriod
periods_of id = filter (λ period. eq_by_cmp nat_cmp id period.id)

-- one of the periods is of the silence with this id and covers the moment
abbrev pub is_active_in : Moment → List SilencePeriod → ℕ → Bool
is_active_in now periods id = list_any (covers now) (periods_of id periods)

-- the least id that passes the test, or none if no id does
abbrev pub IsLeastId : (ℕ → Bool) → Option ℕ → Type 0
IsLeastId test None = (id : ℕ) → test id ≡ false
IsLeastId test (Some id) = (test id ≡ true) × ((other : ℕ) → test other ≡ true → id ≤ other)

-- when a silence mutes the labels from a moment on, if it may
abbrev pub period_from : Moment → LabelSet → ℕ → Option Silence → Option SilencePeriod
period_from from labels id None = None
period_from from labels id (Some silence) = if may_silence from labels silence then Some (period_of (id, silence)) else None

-- among the periods there is that of the silence with this id and no other one, and none if it
-- doesn't mute the labels from the moment on
abbrev pub IsListed : Moment → LabelSet → Silences → List SilencePeriod → ℕ → Type 0
IsListed from labels silences periods id = periods_of id periods ≡ cons_option (period_from from labels id (get silences id)) []
