-- What integrations were notified of, by the notification log and by the transcript.
use Rattle.std.specs.Prelude.{◌≡◌, ◌⊎◌, ◌+◌, ◌<◌, ℕ, true, false, List, Option, None, Some, IsSomeAnd, map}
use Rattle.std.specs.List.{fold, Contains}
use Rattle.amr_labels.specs.Map.{get}
use Rattle.amr_labels.specs.Set.{contains}
use Rattle.amr_labels.specs.Labels.{Text, LabelSet}
use Rattle.amr_time.specs.Time.{Moment}
use Rattle.amr_config.specs.declared.stated.receiver.Integration.{Integration}
use Rattle.amr_config.specs.Routing.{group_of, path_of, integrations_of, repeat_interval_of}
use Rattle.amr_rules.specs.declared.alert.Alert.{Alert}
use Rattle.amr_rules.specs.Alerts.{is_resolved_at}
use Rattle.amr_rules.specs.declared.dedup.LogEntry.{LogEntry}
use Rattle.amr_engine.specs.State.Dues.{Due}
use Rattle.amr_engine.specs.declared.state.notification.LogKey.{LogKey}
use Rattle.amr_engine.specs.declared.state.notification.Notification.{Notification}
use Rattle.amr_config.specs.declared.route_labels.RouteLabels.{RouteLabels}
use Rattle.amr_engine.specs.State.State.{State, members}
use Rattle.amr_engine.specs.Stages.{taken_away}
use Rattle.amr_engine.specs.Flush.{log_key_of}
use Rattle.amr_engine.specs.Moves.{move}
use Rattle.amr_engine.specs.declared.verdict.Finding.TheVariants.{Told}
use Rattle.amr_engine.specs.declared.verdict.Verdict.{Verdict}
use Rattle.amr_engine.specs.declared.verdict.Verdict.TheVariants.{AtRoute}

-- a notification of this moment and key has the alert among those that fire
pub record HasNotification (notes : List Notification) (at : Moment) (key : LogKey) (labels : LabelSet) : Type 0 where
  pub notification : Notification
  pub listed : Contains notes notification
  pub moment : notification.at ≡ at
  pub of_key : notification.key ≡ key
  pub fires : Contains (map (λ alert. alert.labels) notification.firing) labels

-- each alert that an entry of the log has among those that fire is in the entry's notification
abbrev pub LogIsNotified : State → Type 0
LogIsNotified s = (key : LogKey) (entry : LogEntry) (labels : LabelSet)
    → get s.log key ≡ Some entry → contains entry.firing labels ≡ true → HasNotification s.notes entry.time key labels

-- an alert that is explained as `Told` is in a notification of that moment to that integration,
-- for the alert's group on that route
abbrev pub ToldIsNotified : State → LabelSet → List Verdict → Type 0
ToldIsNotified s labels found = (route : ℕ) (receiver : Text) (integration : Option (Text × ℕ)) (at : Moment)
    → Contains found (AtRoute route receiver integration (Told at))
    → IsSomeAnd integration (λ named. HasNotification s.notes at (record {
      receiver = receiver;
      kind = named.0;
      place = named.1;
      group = group_of s.config route labels;
      path = path_of s.config route;
    }) labels)

-- the log has an entry of this key with the alert among those that fire, and the transcript has the
-- entry's notification
pub record IsNotified (s : State) (key : LogKey) (labels : LabelSet) : Type 0 where
  pub entry : LogEntry
  pub logged : get s.log key ≡ Some entry
  pub fires : contains entry.firing labels ≡ true
  pub notified : HasNotification s.notes entry.time key labels

-- a member of the group that fires at the moment, and that no stage mutes
pub record IsToNotify (s : State) (at : Moment) (group : RouteLabels) (member : LabelSet × Alert) : Type 0 where
  pub listed : Contains (members s group) member
  pub fires : is_resolved_at at member.1 ≡ false
  pub unmuted : taken_away s at group.route member.0 ≡ None

-- each integration of the group's receiver was notified of each such member
abbrev pub AllAreNotified : State → Moment → RouteLabels → State → Type 0
AllAreNotified s at group after = (member : LabelSet × Alert) → IsToNotify s at group member
    → (integration : Integration) → Contains (integrations_of s.config group.route) integration
    → IsNotified after (log_key_of s.config group integration) member.0

-- an entry that has the same sets as the last one is that one, or was written after the repeat
-- interval
abbrev pub RepeatsWait : State → ℕ → State → Type 0
RepeatsWait s route after = (key : LogKey) (last entry : LogEntry) → get s.log key ≡ Some last → get after.log key ≡ Some entry
    → entry.firing ≡ last.firing → entry.resolved ≡ last.resolved
    → (entry ≡ last) ⊎ (last.time + repeat_interval_of s.config route < entry.time)

-- the state after moves, one after another
abbrev pub after_moves : State → List Due → State
after_moves = fold (λ s due. move due s)
