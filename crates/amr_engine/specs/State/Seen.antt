-- What the program lists of the state.
use Rattle.std.specs.Prelude.{List, map}
use Rattle.amr_labels.specs.Map.{entries}
use Rattle.amr_engine.specs.declared.state.notification.GroupTimer.{GroupTimer}
use Rattle.amr_config.specs.declared.route_labels.RouteLabels.{RouteLabels}
use Rattle.amr_engine.specs.declared.state.views.Group.{Group}
use Rattle.amr_engine.specs.State.State.{State, members}

-- a group with its timer and the label sets of its members
abbrev pub group_seen : State → RouteLabels × GroupTimer → Group
group_seen s group = record {
  route = group.0.route;
  labels = group.0.labels;
  next_flush = group.1.next_flush;
  flushed = group.1.flushed;
  empty_since = group.1.empty_since;
  members = map (λ member. member.0) (members s group.0);
}

-- the groups, by route and labels
abbrev pub groups_of : State → List Group
groups_of s = map (group_seen s) (entries s.timers)
