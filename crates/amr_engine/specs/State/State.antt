-- The state of the replayed instance.
use Rattle.std.specs.Prelude.{ℕ, true, false, not, ◌&&◌, List, [], Option, Some, None, if◌then◌else◌, nat_lt, ◌+◌, map}
use Rattle.std.specs.List.{filter, fold}
use Rattle.std.specs.Option.{option_map_or}
use Rattle.std.specs.declared.cmp.Ordering.{Ordering}
use Rattle.std.specs.Ordering.{nat_cmp, ordering_then, eq_by_cmp}
use Rattle.std.specs.Cmp.{IsTotalOrder, nat_cmp_total}
use Rattle.std.specs.Cmp.Lexicographic.{nat_list_cmp_total}
use Rattle.std.proofs.lemmas.Cmp.{on_total, then_total}
use Rattle.amr_labels.specs.Map.{Map, get, insert, entries, empty}
use Rattle.std.specs.FinMap.{IsAntisymmetric}
use Rattle.std.proofs.Common.{ap}
use Rattle.std.proofs.lemmas.Map.Lookups.{exact_pairs, exact_bytes, exact_unsigned}
use Rattle.amr_labels.specs.Labels.{Text, text_cmp, LabelSet, label_set_cmp, label_set_cmp_total, label_set_cmp-IsAntisymmetric}
use Rattle.amr_time.specs.Time.{Moment, Span}
use Rattle.amr_config.specs.RouteLabels.{on_route, route_labels_cmp}
use Rattle.amr_config.specs.Paths.{Path, path_cmp, path_cmp_total, path_cmp-IsAntisymmetric}
use Rattle.amr_config.specs.Stated.Config.{Config}
use Rattle.amr_config.specs.Routing.{chosen_routes, group_of, group_wait_of}
use Rattle.amr_rules.specs.declared.alert.Alert.{Alert}
use Rattle.amr_rules.specs.declared.dedup.LogEntry.{LogEntry}
use Rattle.amr_config.specs.declared.route_labels.RouteLabels.{RouteLabels}
use Rattle.amr_engine.specs.declared.state.notification.GroupTimer.{GroupTimer}
use Rattle.amr_engine.specs.declared.state.notification.LogKey.{LogKey}
use Rattle.amr_engine.specs.declared.state.notification.Notification.{Notification}
use Rattle.amr_rules.specs.Silences.{Silences}
use Rattle.amr_rules.specs.Muting.{Alerts}

-- by receiver, integration, group labels and path
abbrev pub log_key_cmp : LogKey → LogKey → Ordering
log_key_cmp a b =
    ordering_then (text_cmp a.receiver b.receiver) (ordering_then (text_cmp a.kind b.kind) (ordering_then (nat_cmp a.place b.place)
    (ordering_then (label_set_cmp a.group b.group) (path_cmp a.path b.path))))

pub log_key_cmp_total : IsTotalOrder log_key_cmp
log_key_cmp_total =
    then_total (on_total (λ (key : LogKey). key.receiver) nat_list_cmp_total) (then_total (on_total (λ (key : LogKey). key.kind) nat_list_cmp_total)
    (then_total (on_total (λ (key : LogKey). key.place) nat_cmp_total) (then_total (on_total (λ (key : LogKey). key.group) label_set_cmp_total)
    (on_total (λ (key : LogKey). key.path) path_cmp_total))))

abbrev log_key_parts : LogKey → Text × (Text × (ℕ × (LabelSet × Path)))
log_key_parts key = (key.receiver, (key.kind, (key.place, (key.group, key.path))))

log_key_of_parts : Text × (Text × (ℕ × (LabelSet × Path))) → LogKey
log_key_of_parts parts = record { receiver = parts.0; kind = parts.1.0; place = parts.1.1.0; group = parts.1.1.1.0; path = parts.1.1.1.1 }

pub log_key_cmp-IsAntisymmetric : IsAntisymmetric log_key_cmp
unfolding log_key_of_parts
log_key_cmp-IsAntisymmetric a b tie =
    ap log_key_of_parts (exact_pairs text_cmp _ exact_bytes (exact_pairs text_cmp _ exact_bytes (exact_pairs nat_cmp _ exact_unsigned
    (exact_pairs label_set_cmp path_cmp label_set_cmp-IsAntisymmetric path_cmp-IsAntisymmetric)))
    (log_key_parts a) (log_key_parts b) tie)

-- The state of the replayed instance: the clock, the configuration in force, the stored alerts,
-- silences, members and timers of groups, the notification log, and the notifications so far.
pub record State : Type 0 where
  pub moment : Moment
  pub config : Config
  pub alerts : Alerts
  pub silences : Silences
  -- the copies of alerts that the groups hold, by route and labels
  pub placements : Map route_labels_cmp Alert
  pub timers : Map route_labels_cmp GroupTimer
  pub log : Map log_key_cmp LogEntry
  pub notes : List Notification

-- the state before the first event
abbrev pub start : Config → State
start config = record {
  moment = 0;
  config = config;
  alerts = empty;
  silences = empty;
  placements = empty;
  timers = empty;
  log = empty;
  notes = [];
}

-- the group of an alert on a route
abbrev pub group_key : Config → RouteLabels → RouteLabels
group_key config route_labels = on_route route_labels.route (group_of config route_labels.route route_labels.labels)

-- the members of a group, by labels, given the members of all groups
abbrev pub members_among : Config → Map route_labels_cmp Alert → RouteLabels → List (LabelSet × Alert)
members_among config placements group =
    map (λ placement. (placement.0.labels, placement.1)) (filter (λ placement. eq_by_cmp route_labels_cmp (group_key config placement.0) group) (entries placements))

-- the members of a group, by labels
unfoldable pub members : State → RouteLabels → List (LabelSet × Alert)
members s group = members_among s.config s.placements group

-- the group timer after an alert is inserted: a new group is flushed after `group_wait`, and an
-- alert whose own wait is over has a group that was never flushed flushed now
abbrev pub timer_with : Moment → Span → Alert → Option GroupTimer → GroupTimer
timer_with now wait alert None =
    record { next_flush = if nat_lt (alert.starts_at + wait) now then now else now + wait; flushed = false; empty_since = None }
timer_with now wait alert (Some timer) =
    record timer { next_flush = if not timer.flushed && nat_lt (alert.starts_at + wait) now then now else timer.next_flush; empty_since = None }

-- the group timers after a flush of the group, which is flushed next at this moment
abbrev pub timers_after_flush : Moment → RouteLabels → Map route_labels_cmp GroupTimer → Map route_labels_cmp GroupTimer
timers_after_flush next group timers =
    option_map_or (λ timer. insert timers group (record timer { next_flush = next; flushed = true })) (get timers group) timers

-- the alert is inserted into its group on the route
abbrev pub insert_into_group : LabelSet → Alert → State → ℕ → State
insert_into_group labels alert s route =
    let group : RouteLabels = group_key s.config (on_route route labels) in
    record s {
      placements = insert s.placements (on_route route labels) alert;
      timers = insert s.timers group (timer_with s.moment (group_wait_of s.config route) alert (get s.timers group));
    }

-- the alert is inserted into its group on each route that takes it
unfoldable pub insert_into_groups : State → LabelSet × Alert → State
insert_into_groups s alert = fold (insert_into_group alert.0 alert.1) s (chosen_routes s.config alert.0)
