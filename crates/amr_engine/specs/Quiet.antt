-- Groups whose flushes change nothing but the group timer, from one moment until another.
use Rattle.std.specs.Prelude.{◌≡◌, ℕ, Bool, true, not, ◌&&◌, ◌||◌, List, [], ◌∷◌, Option, Some, None, ◌+◌, nat_le, length, ◌==◌, ◌⊎◌}
use Rattle.std.specs.List.{list_all}
use Rattle.amr_labels.specs.Map.{get, entries}
use Rattle.amr_time.specs.Time.{Moment, Span}
use Rattle.amr_config.specs.declared.stated.receiver.Integration.{Integration}
use Rattle.amr_config.specs.declared.stated.rule.InhibitRule.{InhibitRule}
use Rattle.amr_config.specs.Stated.Config.{Config}
use Rattle.amr_config.specs.Routing.{active_intervals_of, mute_intervals_of, group_interval_of, repeat_interval_of, integrations_of}
use Rattle.amr_rules.specs.Muting.{Alerts}
use Rattle.amr_rules.specs.Silences.{Silences}
use Rattle.amr_rules.specs.Dedup.{LabelSets, needs_update}
use Rattle.amr_rules.specs.declared.dedup.LogEntry.{LogEntry}
use Rattle.amr_engine.specs.declared.state.notification.LogKey.{LogKey}
use Rattle.amr_config.specs.declared.route_labels.RouteLabels.{RouteLabels}
use Rattle.amr_engine.specs.State.State.{State, members}
use Rattle.amr_engine.specs.Flush.{Members, let_through, labels_of, log_key_of, set_timer}

-- the group timer is set as at a flush, and nothing else changes
abbrev pub with_timer_reset : Moment → RouteLabels → State → State
with_timer_reset at group s = set_timer group (λ timer. record timer { next_flush = at + group_interval_of s.config group.route; flushed = true }) s

-- the moment `at` is past already at the first of the two moments, or still ahead until the second
abbrev pub is_outside : Moment → Moment → Moment → Bool
is_outside from until at = nat_le at from || nat_le until at

-- no stored alert ends between the two moments
abbrev pub no_alert_ends : Moment → Moment → Alerts → Bool
no_alert_ends from until alerts = list_all (λ stored. is_outside from until stored.1.ends_at) (entries alerts)

-- no source of an inhibition rule ends between the two moments
abbrev pub no_source_ends : Moment → Moment → List InhibitRule → Alerts → Bool
no_source_ends from until [] alerts = true
no_source_ends from until (rule ∷ rules) alerts = no_alert_ends from until alerts

-- no silence starts or ends between the two moments
abbrev pub no_silence_turns : Moment → Moment → Silences → Bool
no_silence_turns from until silences =
    list_all (λ stored. is_outside from until stored.1.starts_at && is_outside from until stored.1.ends_at) (entries silences)

-- what may mute an alert doesn't change between the two moments
pub record IsStill (s : State) (from until : Moment) : Type 0 where
  pub sources : no_source_ends from until s.config.rules s.alerts ≡ true
  pub silences : no_silence_turns from until s.silences ≡ true

-- all members fire until the moment
abbrev pub all_fire_until : Moment → Members → Bool
all_fire_until until = list_all (λ member. nat_le until member.1.ends_at)

-- the route has no active and no mute time intervals
abbrev pub is_untimed : Config → ℕ → Bool
is_untimed config route = (length (active_intervals_of config route) == 0) && (length (mute_intervals_of config route) == 0)

-- no repeated notification is due before the moment
abbrev pub no_repeat_before : Moment → Span → Option LogEntry → Bool
no_repeat_before until interval None = true
no_repeat_before until interval (Some entry) = nat_le until (entry.time + interval + 1)

-- the dedup check is against a notification of these firing members, and stays so until a repeated
-- one is due
abbrev pub is_notified : State → RouteLabels → Moment → Moment → LabelSets → Integration → Bool
is_notified s group from until firing integration =
    not (needs_update (get s.log (log_key_of s.config group integration)) firing (labels_of []) integration.send_resolved from (repeat_interval_of s.config group.route))
    && no_repeat_before until (repeat_interval_of s.config group.route) (get s.log (log_key_of s.config group integration))

-- all members are muted, or all integrations were notified of those that aren't
abbrev pub are_notified : State → RouteLabels → Moment → Moment → Members → Bool
are_notified s group from until [] = true
are_notified s group from until (member ∷ members) = list_all (is_notified s group from until (labels_of (member ∷ members))) (integrations_of s.config group.route)

-- What a flush of the members depends on doesn't change from one moment until another: which of
-- them fire, what mutes them, and whether somebody is to be notified, which nobody is. It names no
-- group timer and not the clock.
pub record IsSettled (s : State) (group : RouteLabels) (from until : Moment) (members : Members) : Type 0 where
  pub fire : all_fire_until until members ≡ true
  pub still : IsStill s from until
  pub untimed : is_untimed s.config group.route ≡ true
  pub notified : are_notified s group from until (let_through s from group.route members) ≡ true

-- All members fire until the moment, all integrations were notified of them, and no repeated
-- notification is due before. Whatever mutes some of them, nobody is to be notified.
pub record IsAllNotified (s : State) (group : RouteLabels) (from until : Moment) (members : Members) : Type 0 where
  pub fire : all_fire_until until members ≡ true
  pub notified : are_notified s group from until members ≡ true

-- a group without members is quiet for ever
abbrev pub IsQuietWith : State → RouteLabels → Moment → Moment → Members → Type 0
IsQuietWith s group from until [] = Unit {0}
IsQuietWith s group from until (member ∷ members) = IsSettled s group from until (member ∷ members) ⊎ IsAllNotified s group from until (member ∷ members)

-- the group's flushes from one moment until another set the group timer and change nothing else
unfoldable pub IsQuiet : State → RouteLabels → Moment → Moment → Type 0
IsQuiet s group from until = IsQuietWith s group from until (members s group)

-- What flushes of other groups than this one depend on is the same in both states, but for log
-- entries that they share with it.
pub record LeavesOthers (flushed : RouteLabels) (s t : State) : Type 0 where
  pub config : t.config ≡ s.config
  pub alerts : t.alerts ≡ s.alerts
  pub silences : t.silences ≡ s.silences
  pub members : (group : RouteLabels) → (group ≡ flushed → ⊥) → members t group ≡ members s group
  pub log : (key : LogKey) → ((integration : Integration) → key ≡ log_key_of s.config flushed integration → ⊥) → get t.log key ≡ get s.log key
