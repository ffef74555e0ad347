-- Groups that are flushed again and again until a moment, whatever else is due before it.
use Rattle.std.specs.Prelude.{◌≡◌, ℕ, true, Some, None, ◌+◌, ◌*◌, ◌≤◌, ◌<◌, length}
use Rattle.amr_labels.specs.Map.{get}
use Rattle.amr_time.specs.Time.{Moment}
use Rattle.amr_config.specs.Routing.{group_interval_of}
use Rattle.amr_engine.specs.declared.state.notification.GroupTimer.{GroupTimer}
use Rattle.amr_config.specs.declared.route_labels.RouteLabels.{RouteLabels}
use Rattle.amr_engine.specs.State.State.{State, members}
use Rattle.amr_engine.specs.Quiet.{all_fire_until}

-- the group has members, and all of them fire until after the moment
pub record Lasts (s : State) (at : Moment) (group : RouteLabels) (timer : GroupTimer) : Type 0 where
  pub timed : get s.timers group ≡ Some timer
  pub full : timer.empty_since ≡ None
  pub some : 0 < length (members s group)
  pub fire : all_fire_until (at + 1) (members s group) ≡ true

-- its flushes up to the moment are more than this many
abbrev pub IsFlushedBeyond : ℕ → State → Moment → RouteLabels → GroupTimer → Type 0
IsFlushedBeyond left s at group timer = Lasts s at group timer × (timer.next_flush + left * group_interval_of s.config group.route ≤ at)
