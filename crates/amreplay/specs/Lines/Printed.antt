-- What is printed, as JSON.
use Rattle.std.specs.Prelude.{ℕ, Bool, true, false, List, [], ◌∷◌, ◌++◌, Option, None, Some, map, fold, codes}
use Rattle.std.specs.List.{flat_map}
use Rattle.serde_json.specs.Data.{Data, Members, unsigned, null, boolean, number, string, array, object, no_members, put}
use Rattle.serde_json.specs.View.{items_of}
use Rattle.serde_json.specs.Written.{compact_text}
use Rattle.amr_events.specs.Posts.Ids.{id_text}
use Rattle.amr_labels.specs.declared.matcher.Operator.{Operator}
use Rattle.amr_labels.specs.declared.matcher.Operator.TheVariants as operator
use Rattle.amr_labels.specs.Map.{entries}
use Rattle.amr_labels.specs.Set.{items}
use Rattle.amr_labels.specs.Labels.{Text, LabelSet}
use Rattle.amr_labels.specs.Matcher.Matchers.{Matcher}
use Rattle.amr_time.specs.Time.{Moment}
use Rattle.amr_events.specs.Actions.Events.{Act, Event}
use Rattle.amr_events.specs.Actions.Events as events
use Rattle.amr_rules.specs.declared.alert.Alert.{Alert}
use Rattle.amr_rules.specs.declared.silence.Silence.{Silence}
use Rattle.amr_rules.specs.declared.dedup.LogEntry.{LogEntry}
use Rattle.amr_engine.specs.declared.state.notification.LogKey.{LogKey}
use Rattle.amr_engine.specs.declared.state.notification.FiringAlert.{FiringAlert}
use Rattle.amr_engine.specs.declared.state.notification.ResolvedAlert.{ResolvedAlert}
use Rattle.amr_engine.specs.declared.state.notification.Notification.{Notification}
use Rattle.amr_engine.specs.declared.state.views.Group.{Group}
use Rattle.amr_engine.specs.Events.{Outcome, Accepted, Refused}
use Rattle.amr_time.specs.MomentText.{moment_text}

-- members added to an object, each at its key
abbrev pub with_members : List (Text × Data) → Members → Members
with_members [] members = members
with_members (m ∷ ms) members = put m.0 m.1 (with_members ms members)

-- an object with these members, by key
abbrev pub object_of : List (Text × Data) → Members
object_of ms = with_members ms no_members

-- a line is compact JSON and a line feed
abbrev pub data_line : Data → Text
data_line value = compact_text value ++ codes "\n"

abbrev pub number_data : ℕ → Data
number_data n = number (unsigned n)

unfoldable pub moment_data : Moment → Data
moment_data m = string (moment_text m)

-- one more text under its name
abbrev pub with_text : Members → Text × Text → Members
with_text members entry = put entry.0 (string entry.1) members

-- an object with these texts under their names
abbrev pub texts_data : List (Text × Text) → Data
texts_data texts = object (fold with_text no_members texts)

abbrev pub labels_data : LabelSet → Data
labels_data labels = texts_data (entries labels)

abbrev pub firing_members : FiringAlert → List (Text × Data)
firing_members alert =
    (codes "annotations", texts_data (entries alert.annotations))
    ∷ (codes "labels", labels_data alert.labels)
    ∷ (codes "startsAt", moment_data alert.starts_at) ∷ []

unfoldable pub firing_data : FiringAlert → Data
firing_data alert = object (object_of (firing_members alert))

abbrev pub resolved_members : ResolvedAlert → List (Text × Data)
resolved_members alert =
    (codes "annotations", texts_data (entries alert.annotations))
    ∷ (codes "endsAt", moment_data alert.ends_at)
    ∷ (codes "labels", labels_data alert.labels)
    ∷ (codes "startsAt", moment_data alert.starts_at) ∷ []

unfoldable pub resolved_data : ResolvedAlert → Data
resolved_data alert = object (object_of (resolved_members alert))

abbrev pub notification_members : Notification → List (Text × Data)
notification_members notification =
    (codes "at", moment_data notification.at)
    ∷ (codes "firing", array (items_of (map firing_data notification.firing)))
    ∷ (codes "groupLabels", labels_data notification.key.group)
    ∷ (codes "integration", string notification.key.kind)
    ∷ (codes "place", number_data notification.key.place)
    ∷ (codes "receiver", string notification.key.receiver)
    ∷ (codes "resolved", array (items_of (map resolved_data notification.resolved)))
    ∷ (codes "route", number_data notification.route) ∷ []

unfoldable pub notification_data : Notification → Data
notification_data notification = object (object_of (notification_members notification))

abbrev pub notification_line : Notification → Text
notification_line notification = data_line (notification_data notification)

abbrev pub skipped_members : ℕ → List ℕ → List (Text × Data)
skipped_members event positions = (codes "event", number_data event) ∷ (codes "skipped", array (items_of (map number_data positions))) ∷ []

abbrev pub skipped_data : ℕ → List ℕ → Data
skipped_data event positions = object (object_of (skipped_members event positions))

-- the alerts that an event skipped, by their positions in the post
abbrev pub skipped_line : ℕ → List ℕ → Text
skipped_line event positions = data_line (skipped_data event positions)

abbrev pub refused_event_data : ℕ → ℕ → Data
refused_event_data event reason = object (object_of ((codes "event", number_data event) ∷ (codes "reason", number_data reason) ∷ []))

-- a refused event, with the number of the reason
abbrev pub refused_event_line : ℕ → ℕ → Text
refused_event_line event reason = data_line (refused_event_data event reason)

-- a line if some alert was skipped
abbrev pub skipped_lines : ℕ → List ℕ → Text
skipped_lines event [] = []
skipped_lines event (position ∷ positions) = skipped_line event (position ∷ positions)

-- the lines of an outcome: its notifications in order, then the skipped alerts; or its refusal
abbrev pub outcome_lines : ℕ → Outcome → Text
outcome_lines event (Accepted moves notes skipped) = flat_map notification_line notes ++ skipped_lines event skipped
outcome_lines event (Refused reason) = refused_event_line event reason

abbrev pub label_data : ℕ → Text → Data
label_data event text = object (object_of ((codes "event", number_data event) ∷ (codes "label", string text) ∷ []))

-- a label, which names a moment of the script
abbrev pub label_line : ℕ → Text → Text
label_line event text = data_line (label_data event text)

-- a line if the action is a label
abbrev pub label_lines : ℕ → Act → Text
label_lines event (events.Act.Label text) = label_line event text
label_lines event (events.Act.Post alerts) = []
label_lines event (events.Act.Silence silence) = []
label_lines event (events.Act.Expire id) = []
label_lines event (events.Act.Reload config) = []
label_lines event events.Act.Tick = []

-- the lines of event number n, which had this outcome
abbrev pub event_lines : ℕ → Event → Outcome → Text
event_lines n event outcome = outcome_lines n outcome ++ label_lines n event.act

abbrev pub alert_members : LabelSet × Alert → List (Text × Data)
alert_members alert =
    (codes "annotations", texts_data (entries alert.1.annotations))
    ∷ (codes "endsAt", moment_data alert.1.ends_at)
    ∷ (codes "labels", labels_data alert.0)
    ∷ (codes "startsAt", moment_data alert.1.starts_at)
    ∷ (codes "timeout", boolean alert.1.timed_out)
    ∷ (codes "updatedAt", moment_data alert.1.last_post) ∷ []

unfoldable pub alert_data : LabelSet × Alert → Data
alert_data alert = object (object_of (alert_members alert))

-- a stored alert
abbrev pub alert_line : LabelSet × Alert → Text
alert_line alert = data_line (alert_data alert)

abbrev pub is_equal : Operator → Bool
is_equal operator.Equal = true
is_equal operator.NotEqual = false
is_equal operator.Matches = true
is_equal operator.NotMatches = false

abbrev pub is_regex : Operator → Bool
is_regex operator.Equal = false
is_regex operator.NotEqual = false
is_regex operator.Matches = true
is_regex operator.NotMatches = true

abbrev pub matcher_members : Matcher → List (Text × Data)
matcher_members matcher =
    (codes "isEqual", boolean (is_equal matcher.operator)) ∷ (codes "isRegex", boolean (is_regex matcher.operator))
    ∷ (codes "name", string matcher.name) ∷ (codes "value", string matcher.value) ∷ []

unfoldable pub matcher_data : Matcher → Data
matcher_data matcher = object (object_of (matcher_members matcher))

abbrev pub matchers_data : List Matcher → Data
matchers_data matchers = array (items_of (map matcher_data matchers))

abbrev pub silence_members : ℕ × Silence → List (Text × Data)
silence_members silence =
    (codes "endsAt", moment_data silence.1.ends_at)
    ∷ (codes "id", string (id_text silence.0))
    ∷ (codes "matchers", matchers_data silence.1.matchers)
    ∷ (codes "startsAt", moment_data silence.1.starts_at) ∷ []

unfoldable pub silence_data : ℕ × Silence → Data
silence_data silence = object (object_of (silence_members silence))

-- a stored silence
abbrev pub silence_line : ℕ × Silence → Text
silence_line silence = data_line (silence_data silence)

abbrev pub label_sets_data : List LabelSet → Data
label_sets_data sets = array (items_of (map labels_data sets))

abbrev pub since_data : Option Moment → Data
since_data None = null
since_data (Some m) = moment_data m

abbrev pub group_members : Group → List (Text × Data)
group_members group =
    (codes "emptySince", since_data group.empty_since)
    ∷ (codes "flushed", boolean group.flushed)
    ∷ (codes "groupLabels", labels_data group.labels)
    ∷ (codes "members", label_sets_data group.members)
    ∷ (codes "nextFlush", moment_data group.next_flush)
    ∷ (codes "route", number_data group.route) ∷ []

unfoldable pub group_data : Group → Data
group_data group = object (object_of (group_members group))

-- a group as the views show it
abbrev pub group_line : Group → Text
group_line group = data_line (group_data group)

abbrev pub log_members : LogKey × LogEntry → List (Text × Data)
log_members entry =
    (codes "at", moment_data entry.1.time)
    ∷ (codes "firing", label_sets_data (items entry.1.firing))
    ∷ (codes "groupLabels", labels_data entry.0.group)
    ∷ (codes "integration", string entry.0.kind)
    ∷ (codes "path", array (items_of (map matchers_data entry.0.path)))
    ∷ (codes "place", number_data entry.0.place)
    ∷ (codes "receiver", string entry.0.receiver)
    ∷ (codes "resolved", label_sets_data (items entry.1.resolved)) ∷ []

unfoldable pub log_data : LogKey × LogEntry → Data
log_data entry = object (object_of (log_members entry))

-- an entry of the notification log
abbrev pub log_line : LogKey × LogEntry → Text
log_line entry = data_line (log_data entry)

-- a proof with this on its `unfolding` line computes what is printed
unfoldable pub printing : Unit {0}
unfolding moment_data firing_data resolved_data notification_data alert_data matcher_data id_text silence_data group_data log_data
printing = tt
