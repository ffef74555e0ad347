-- The weight of an event: how much it may displace.
use Rattle.std.specs.Prelude.{ℕ, zero, suc, List, [], ◌∷◌, ◌+◌, ◌*◌, length, if◌then◌else◌}
use Rattle.std.specs.Option.{option_map_or}
use Rattle.std.specs.List.{sum_by}
use Rattle.amr_labels.specs.Map.{len}
use Rattle.amr_labels.specs.Labels.{LabelSet}
use Rattle.amr_time.specs.Time.{Moment}
use Rattle.amr_config.specs.Stated.Config.{Config}
use Rattle.amr_config.specs.Routing.{chosen_routes, integrations_of}
use Rattle.amr_rules.specs.declared.alert.Alert.{Alert}
use Rattle.amr_events.specs.Actions.Events.{Act, Event, is_label}
use Rattle.amr_engine.specs.declared.state.due.Kind.{Kind}
use Rattle.amr_engine.specs.declared.state.due.Kind.TheVariants.{AlertRemoval, GroupRemoval, GroupFlush}
use Rattle.amr_config.specs.declared.route_labels.RouteLabels.{RouteLabels}
use Rattle.amr_config.specs.RouteLabels.{on_route}
use Rattle.amr_engine.specs.State.State.{State, members}
use Rattle.amr_engine.specs.State.Dues.{Due, next_due}
use Rattle.amr_engine.specs.Moves.{move, advance}
use Rattle.amr_engine.specs.Events.{move_limit, valid_alerts, at_moment}

-- how many integrations the receiver of a group has
abbrev pub turns : State → RouteLabels → ℕ
turns s group = length (integrations_of s.config group.route)

abbrev pub flush_weight : State → RouteLabels → ℕ
flush_weight s group = 1 + turns s group + length (members s group)

-- what a move may displace
abbrev pub move_weight : State → Due → Kind → ℕ
move_weight s due AlertRemoval = 1
move_weight s due GroupRemoval = 1
move_weight s due GroupFlush = flush_weight s (on_route due.route due.labels)

abbrev pub moves_weight : State → List Due → ℕ
moves_weight s [] = 0
moves_weight s (due ∷ dues) = move_weight s due due.kind + moves_weight (move due s) dues

-- the weight of the moves up to a moment, of at most this many
abbrev pub first_weight : ℕ → Moment → State → ℕ
first_weight zero at s = 0
first_weight (suc most) at s = option_map_or (λ due. move_weight s due due.kind + first_weight most at (move due s)) (next_due at s) 0

abbrev pub groups_weight : State → ℕ
groups_weight s = len s.timers + len s.placements

-- what a reload may enter: the configuration with its groups, and for each member after it, itself
-- and its group's timer
abbrev pub reload_entries : State → ℕ
reload_entries after = 1 + 2 * groups_weight after

-- what a valid alert may displace: itself, and on each chosen route a member and a timer
abbrev pub alert_weight : Config → LabelSet → ℕ
alert_weight config labels = 1 + 2 * length (chosen_routes config labels)

abbrev pub alerts_weight : Config → List (LabelSet × Alert) → ℕ
alerts_weight config = sum_by (λ alert. alert_weight config alert.0)

-- what an action may displace, given the states before and after it
abbrev pub act_weight : State → State → Act → ℕ
act_weight before after (Act.Post posted) = alerts_weight before.config (valid_alerts before posted)
act_weight before after (Act.Silence posted) = 2
act_weight before after (Act.Expire id) = 2
act_weight before after (Act.Reload config) = groups_weight before + groups_weight after
act_weight before after Act.Tick = 0
act_weight before after (Act.Label text) = 0

-- the weight of an accepted event that is no label, with the state after its moves and the state
-- after it
abbrev pub weight : State → List Due → State → State → Event → ℕ
weight s moves moved after event = 2 + moves_weight s moves + act_weight (at_moment event.at moved) after event.act

-- the same, if there is such a run; 0 if too many moves are due
abbrev pub run_weight : State → Event → State → ℕ
run_weight s event after = option_map_or (λ run. weight s run.0 run.1 after event) (advance move_limit event.at s) 0

-- the weight of an event, given the states before and after it; 0 for a label
abbrev pub event_weight : State → Event → State → ℕ
event_weight s event after = if is_label event.act then 0 else run_weight s event after

-- how many members alerts become, each on its chosen routes
abbrev pub copies : Config → List (LabelSet × Alert) → ℕ
copies config = sum_by (λ alert. length (chosen_routes config alert.0))
