-- Where the stored alerts are: in which groups, and as which copies.
use Rattle.std.specs.Prelude.{◌≡◌, ℕ, false, List, Some, None}
use Rattle.std.specs.List.{All, Contains}
use Rattle.amr_labels.specs.Map.{get}
use Rattle.amr_labels.specs.Labels.{LabelSet}
use Rattle.amr_time.specs.Time.{Moment}
use Rattle.amr_config.specs.Routing.{chosen_routes, group_of}
use Rattle.amr_rules.specs.declared.alert.Alert.{Alert}
use Rattle.amr_rules.specs.Alerts.{is_resolved_at}
use Rattle.amr_engine.specs.declared.state.notification.GroupTimer.{GroupTimer}
use Rattle.amr_config.specs.declared.route_labels.RouteLabels.{RouteLabels}
use Rattle.amr_engine.specs.declared.state.views.Group.{Group}
use Rattle.amr_config.specs.RouteLabels.{on_route}
use Rattle.amr_engine.specs.State.State.{State, group_key}

-- the group has a timer, by which it isn't empty
pub record IsTimed (s : State) (group : RouteLabels) : Type 0 where
  pub timer : GroupTimer
  pub known : get s.timers group ≡ Some timer
  pub not_empty : timer.empty_since ≡ None

-- A stored alert that isn't resolved at the moment is a member of its group on each route that takes
-- it, and the member is the alert as it is stored. No alert is a member on another route. The group
-- of each member has a timer, by which it isn't empty.
pub record IsPlaced (at : Moment) (s : State) : Type 0 where
  pub copied : (labels : LabelSet) (alert : Alert) → get s.alerts labels ≡ Some alert → is_resolved_at at alert ≡ false
      → (route : ℕ) → Contains (chosen_routes s.config labels) route → get s.placements (on_route route labels) ≡ Some alert
  pub chosen_only : (member : RouteLabels) (copy : Alert) → get s.placements member ≡ Some copy → Contains (chosen_routes s.config member.labels) member.route
  pub timed : (member : RouteLabels) (copy : Alert) → get s.placements member ≡ Some copy → IsTimed s (group_key s.config member)

-- the alerts that aren't resolved at the clock are placed
abbrev pub ArePlaced : State → Type 0
ArePlaced s = IsPlaced s.moment s

-- the alerts are placed, and they were in each of the states before
pub record StayPlaced (s : State) (past : List State) : Type 0 where
  pub now : ArePlaced s
  pub before : All ArePlaced past

-- if the alert is stored and isn't resolved, its group on each route that takes it has a timer
abbrev pub HasTimers : State → LabelSet → Type 0
HasTimers s labels = (alert : Alert) → get s.alerts labels ≡ Some alert → is_resolved_at s.moment alert ≡ false
    → (route : ℕ) → Contains (chosen_routes s.config labels) route → IsTimed s (group_key s.config (on_route route labels))

-- The list has the alert's group on the route, and the group has the alert.
pub record IsListed (s : State) (groups : List Group) (labels : LabelSet) (route : ℕ) : Type 0 where
  pub group : Group
  pub listed : Contains groups group
  pub of_route : group.route ≡ route
  pub of_labels : group.labels ≡ group_of s.config route labels
  pub member : Contains group.members labels

-- A stored alert that isn't resolved is listed in its group on each route that takes it, and all
-- members that are listed are on routes that take them.
pub record AreListed (s : State) (groups : List Group) : Type 0 where
  pub each : (labels : LabelSet) (alert : Alert) → get s.alerts labels ≡ Some alert → is_resolved_at s.moment alert ≡ false
      → (route : ℕ) → Contains (chosen_routes s.config labels) route → IsListed s groups labels route
  pub only : (group : Group) → Contains groups group → (labels : LabelSet) → Contains group.members labels → Contains (chosen_routes s.config labels) group.route
