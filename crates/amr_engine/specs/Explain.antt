-- Why an alert was or wasn't in a notification.
use Rattle.std.specs.Prelude.{ℕ, List, [], ◌∷◌, Option, Some, None, if◌then◌else◌, map, option_map, unwrap_or}
use Rattle.std.specs.Option.{option_or, option_map_or}
use Rattle.std.specs.List.{flat_map}
use Rattle.amr_labels.specs.Map.{get}
use Rattle.amr_labels.specs.Set.{contains}
use Rattle.amr_labels.specs.Labels.{Text, LabelSet}
use Rattle.amr_config.specs.declared.stated.receiver.Integration.{Integration}
use Rattle.amr_config.specs.Routing.{chosen_routes, group_of, receiver_name_of, integrations_of}
use Rattle.amr_rules.specs.declared.alert.Alert.{Alert}
use Rattle.amr_rules.specs.Alerts.{is_resolved_at}
use Rattle.amr_rules.specs.declared.dedup.LogEntry.{LogEntry}
use Rattle.amr_engine.specs.declared.state.notification.GroupTimer.{GroupTimer}
use Rattle.amr_config.specs.declared.route_labels.RouteLabels.{RouteLabels}
use Rattle.amr_engine.specs.declared.verdict.Finding.{Finding}
use Rattle.amr_engine.specs.declared.verdict.Finding.TheVariants.{Waiting, Nowhere, Told, Due}
use Rattle.amr_engine.specs.declared.verdict.Verdict.{Verdict}
use Rattle.amr_engine.specs.declared.verdict.Verdict.TheVariants.{Unknown, Ended, AtRoute}
use Rattle.amr_config.specs.RouteLabels.{on_route}
use Rattle.amr_engine.specs.State.State.{State}
use Rattle.amr_engine.specs.Stages.{taken_away}
use Rattle.amr_engine.specs.Flush.{log_key_of}

abbrev pub waiting : GroupTimer → Option Finding
waiting timer = if timer.flushed then None else Some (Waiting timer.next_flush)

-- what the log says at the integration: it was notified of the alert, or the next flush decides
abbrev pub finding_of_entry : LabelSet → GroupTimer → Option LogEntry → Finding
finding_of_entry labels timer None = Due timer.next_flush
finding_of_entry labels timer (Some entry) = if contains entry.firing labels then Told entry.time else Due timer.next_flush

abbrev pub heard : State → RouteLabels → LabelSet → GroupTimer → Option Integration → Finding
heard s group labels timer None = Nowhere
heard s group labels timer (Some integration) = finding_of_entry labels timer (get s.log (log_key_of s.config group integration))

-- the first that applies: the group waits for its first flush; a stage mutes the alert; what the
-- log says
abbrev pub finding : State → RouteLabels → LabelSet → Option Integration → GroupTimer → Finding
finding s group labels integration timer =
    unwrap_or (option_or (waiting timer) (taken_away s s.moment group.route labels)) (heard s group labels timer integration)

-- each integration of a receiver, or one entry for a receiver without one
abbrev pub integrations_or_none : List Integration → List (Option Integration)
integrations_or_none [] = None ∷ []
integrations_or_none (integration ∷ integrations) = map Some (integration ∷ integrations)

abbrev pub kind_and_place : Integration → Text × ℕ
kind_and_place integration = (integration.kind, integration.place)

abbrev pub verdict_at : State → RouteLabels → LabelSet → GroupTimer → Option Integration → Verdict
verdict_at s group labels timer integration =
    AtRoute group.route (receiver_name_of s.config group.route) (option_map kind_and_place integration) (finding s group labels integration timer)

-- the answers for a group with this timer
abbrev pub verdicts_of_group : State → RouteLabels → LabelSet → GroupTimer → List Verdict
verdicts_of_group s group labels timer = map (verdict_at s group labels timer) (integrations_or_none (integrations_of s.config group.route))

-- The answers at a route, for the alert's group there. A group that doesn't exist, and so has no
-- timer, has none; that of a stored alert that isn't resolved exists (`HasTimers`).
abbrev pub verdicts_at : State → LabelSet → ℕ → List Verdict
verdicts_at s labels route =
    let group : RouteLabels = on_route route (group_of s.config route labels) in
    option_map_or (verdicts_of_group s group labels) (get s.timers group) []

abbrev pub verdicts_of_stored : State → LabelSet → Option Alert → List Verdict
verdicts_of_stored s labels None = Unknown ∷ []
verdicts_of_stored s labels (Some alert) =
    if is_resolved_at s.moment alert then Ended ∷ [] else flat_map (verdicts_at s labels) (chosen_routes s.config labels)

-- the answers of `explain`, at the clock
unfoldable pub verdicts : State → LabelSet → List Verdict
verdicts s labels = verdicts_of_stored s labels (get s.alerts labels)
