-- Configurations of one route, and short names for the worked incidents.
use Rattle.std.specs.Prelude.{true, false, List, [], ◌∷◌, Option, Some, None, codes, ◌+◌, ◌*◌, map}
use Rattle.amr_labels.specs.Map.{entries, empty}
use Rattle.amr_labels.specs.Labels.{Text}
use Rattle.amr_labels.specs.Matcher.Matchers.{Matcher}
use Rattle.amr_labels.specs.declared.matcher.Operator.TheVariants as operator
use Rattle.amr_time.specs.Time.{Moment, second, minute, hour}
use Rattle.amr_config.specs.declared.stated.route.Route.{Route}
use Rattle.amr_config.specs.declared.stated.route.Grouping.TheVariants.{Named}
use Rattle.amr_config.specs.Stated.Config.{Config}
use Rattle.amr_events.specs.declared.posts.posted_alert.PostedAlert.{PostedAlert}
use Rattle.amr_events.specs.Actions.Events.{Event, Act}
use Rattle.amr_engine.specs.declared.state.notification.Notification.{Notification}

abbrev pub ten : Moment
ten = 1714557600 * second

abbrev pub root : Text → Route
root name = record {
  parent = None;
  matchers = [];
  continues = false;
  receiver = Some name;
  group_by = Some (Named (codes "alertname" ∷ []));
  group_wait = None;
  group_interval = None;
  repeat_interval = None;
  active_time_intervals = [];
  mute_time_intervals = [];
}

abbrev pub config_ops : Config
config_ops = record {
  routes = root (codes "ops") ∷ [];
  receivers = record { name = codes "ops"; integrations = record { kind = codes "webhook"; place = 0; send_resolved = true } ∷ [] } ∷ [];
  rules = [];
  resolve_timeout = 5 * minute;
  time_intervals = [];
}

abbrev pub is : Text → Text → Matcher
is name value = record { name = name; operator = operator.Equal; value = value }

-- a critical alert inhibits the warnings of its cluster
abbrev pub config_by_severity : Config
config_by_severity = record config_ops {
  rules = record {
    source = is (codes "severity") (codes "critical") ∷ [];
    target = is (codes "severity") (codes "warning") ∷ [];
    equal = codes "cluster" ∷ [];
  } ∷ [];
}

abbrev pub named : Text → List (Text × Text)
named name = (codes "alertname", name) ∷ []

abbrev pub x : List (Text × Text)
x = named (codes "X")

abbrev pub alert : List (Text × Text) → Option Moment → Option Moment → PostedAlert
alert labels from to = record { labels = labels; annotations = empty; starts_at = from; ends_at = to }

-- an alert that fires for ten hours
abbrev pub long : List (Text × Text) → PostedAlert
long labels = alert labels (Some ten) (Some (ten + 10 * hour))

abbrev pub posts : Moment → List PostedAlert → Event
posts at alerts = record { at = at; act = Act.Post alerts }

abbrev pub ticks : Moment → Event
ticks at = record { at = at; act = Act.Tick }

-- X fires for a time that is less than the wait of its group
abbrev pub short_alert : List Event
short_alert = posts ten (alert x (Some ten) (Some (ten + 20 * second)) ∷ []) ∷ ticks (ten + minute) ∷ []

-- a notification as its moment, its route, and the labels of what fires and what is resolved
abbrev pub notified : Notification → Moment × (List (List (Text × Text)) × List (List (Text × Text)))
notified notification = (notification.at, (map (λ member. entries member.labels) notification.firing, map (λ member. entries member.labels) notification.resolved))
