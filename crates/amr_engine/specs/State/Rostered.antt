-- The configuration in force with the groups, their timers and their members.
use Rattle.std.specs.Prelude.{◌≡◌, ◌≤◌, ℕ, length, Option, Some, IsTrue, is_some, option_map, option_and_then, slice_get}
use Rattle.amr_labels.specs.Map.{get}
use Rattle.amr_labels.specs.Labels.{LabelSet}
use Rattle.amr_config.specs.Stated.Config.{Config}
use Rattle.amr_rules.specs.declared.alert.Alert.{Alert}
use Rattle.amr_tables.specs.Places.{value_at, is_marked}
use Rattle.amr_tables.specs.Numbered.{Numbered, map_of, number_of, next_number, key_at, IsNumber, IsNumbering}
use Rattle.amr_tables.specs.Grouped.{Grouped}
use Rattle.amr_engine.specs.declared.state.notification.GroupTimer.{GroupTimer}
use Rattle.amr_config.specs.declared.route_labels.RouteLabels.{RouteLabels}
use Rattle.amr_config.specs.RouteLabels.{route_labels_cmp}
use Rattle.amr_engine.specs.State.State.{group_key}

-- The configuration, the members, and the timers of groups.
pub record Rostered : Type 0 where
  pub config : Config
  pub placements : Numbered RouteLabels Alert
  pub timers : Numbered RouteLabels GroupTimer

-- Each place belongs to the group that the configuration gives its key, by the numbers of both. The
-- members are in theirs, and no other number is.
pub record IsGrouped (config : Config) (placements : Numbered RouteLabels Alert) (timers : Numbered RouteLabels GroupTimer) (members : Grouped) : Type 0 where
  pub numbering : IsNumbering route_labels_cmp placements
  pub homes : length members.homes ≡ next_number placements
  pub home : (key : RouteLabels) (n : ℕ) → number_of route_labels_cmp placements key ≡ Some n → number_of route_labels_cmp timers (group_key config key) ≡ slice_get members.homes n
  pub present : (key : RouteLabels) (n : ℕ) → number_of route_labels_cmp placements key ≡ Some n → is_marked members.present n ≡ is_some (get (map_of route_labels_cmp placements) key)
  pub named : (n : ℕ) → IsTrue (is_marked members.present n) → IsNumber route_labels_cmp placements n
  pub groups : next_number timers ≤ length members.rooms

-- the labels and the alert of the member at a number, if there is one
abbrev pub member_at : Numbered RouteLabels Alert → ℕ → Option (LabelSet × Alert)
member_at placements n = option_and_then (λ key. option_map (λ alert. (key.labels, alert)) (value_at placements.cells n)) (key_at placements n)
