-- When nothing is due up to a moment but flushes that only set group timers.
use Rattle.std.specs.Prelude.{◌≡◌, ◌≤◌, ◌<◌, ◌-◌, ℕ, Option, Some, None}
use Rattle.amr_labels.specs.Map.{Map, get}
use Rattle.amr_labels.specs.Labels.{LabelSet}
use Rattle.amr_time.specs.Time.{Moment}
use Rattle.amr_config.specs.Routing.{group_interval_of}
use Rattle.amr_config.specs.RouteLabels.{route_labels_cmp}
use Rattle.amr_config.specs.declared.route_labels.RouteLabels.{RouteLabels}
use Rattle.amr_rules.specs.declared.alert.Alert.{Alert}
use Rattle.amr_rules.specs.Muting.{Alerts}
use Rattle.amr_engine.specs.declared.state.notification.GroupTimer.{GroupTimer}
use Rattle.amr_engine.specs.State.State.{State}
use Rattle.amr_engine.specs.State.Dues.{alert_removal_at, group_removal_at}
use Rattle.amr_engine.specs.Moves.{advance, counted_run, plus_moves}
use Rattle.amr_engine.specs.Quiet.{IsQuiet}
use Rattle.amr_engine.specs.QuietMoves.{after_first_moves}
use Rattle.amr_engine.specs.Weight.{first_weight}

-- neither an alert nor a group is removed up to the moment
pub record AreNoneRemoved (at : Moment) (alerts : Alerts) (timers : Map route_labels_cmp GroupTimer) : Type 0 where
  pub of_alerts : (labels : LabelSet) (alert : Alert) → get alerts labels ≡ Some alert → at < alert_removal_at alert
  pub of_groups : (group : RouteLabels) (timer : GroupTimer) (removal : Moment) → get timers group ≡ Some timer → group_removal_at timer ≡ Some removal → at < removal

-- the group is quiet from before its next flush until after the moment, and its flushes are apart
pub record IsQuietBeyond (at : Moment) (s : State) (group : RouteLabels) (timer : GroupTimer) : Type 0 where
  pub from : Moment
  pub until : Moment
  pub begun : from ≤ timer.next_flush
  pub beyond : at < until
  pub quiet : IsQuiet s group from until
  pub apart : 0 < group_interval_of s.config group.route

-- nothing is due up to the moment but flushes of groups that are quiet beyond it
pub record IsCalm (at : Moment) (s : State) : Type 0 where
  pub removed : AreNoneRemoved at s.alerts s.timers
  pub flushed : (group : RouteLabels) (timer : GroupTimer) → get s.timers group ≡ Some timer → timer.next_flush ≤ at → IsQuietBeyond at s group timer

-- The first moves up to the moment lead from one state to the other, and so many are made; or there
-- are more than are left.
abbrev pub IsPartMade : (left : ℕ) (at : Moment) (s t : State) → Option ℕ → Type 0
IsPartMade left at s t (Some made) = (made ≤ left) × (t ≡ after_first_moves made s) × (counted_run (advance left at s) ≡ plus_moves (counted_run (advance (left - made) at t)) made)
IsPartMade left at s t None = counted_run (advance left at s) ≡ None

-- the weight of the moves that are not made yet
abbrev pub weight_left : (left : ℕ) (at : Moment) (t : State) → Option ℕ → ℕ
weight_left left at t (Some made) = first_weight (left - made) at t
weight_left left at t None = 0
