-- The verdicts of `explain`, and a reload.
use Rattle.std.specs.Prelude.{◌≡◌, Bool, true, false, List, [], ◌∷◌, Some, None, Ok, codes, ◌+◌, ◌-◌, ◌*◌, ◌++◌, map, take}
use Rattle.std.proofs.Common.{refl}
use Rattle.amr_labels.specs.Map.{entries, from_entries}
use Rattle.amr_labels.specs.Labels.{Text}
use Rattle.amr_time.specs.Time.{Moment, second, minute, hour}
use Rattle.amr_config.specs.declared.stated.route.Grouping.TheVariants.{Named}
use Rattle.amr_config.specs.Stated.Config.{Config}
use Rattle.amr_events.specs.Actions.Events.{Event, Act}
use Rattle.amr_engine.specs.declared.state.notification.GroupTimer.{GroupTimer}
use Rattle.amr_config.specs.declared.route_labels.RouteLabels.{RouteLabels}
use Rattle.amr_engine.specs.Events.{run_of, replaying}
use Rattle.amr_engine.specs.declared.verdict.Finding.TheVariants as finding
use Rattle.amr_engine.specs.declared.verdict.Verdict.TheVariants as verdict
use Rattle.amr_engine.specs.Explain.{verdicts}
use Rattle.amr_replay.proofs.worked.Setting.{ten, root, config_ops, is, config_by_severity, x, alert, long, posts, ticks, short_alert}

abbrev labels : Text → Text → List (Text × Text)
labels name severity = (codes "alertname", name) ∷ (codes "cluster", codes "a") ∷ (codes "severity", severity) ∷ []

abbrev lat : List (Text × Text)
lat = labels (codes "Lat") (codes "warning")

abbrev down : List (Text × Text)
down = labels (codes "Down") (codes "critical")

abbrev lat_and_down : List Event
lat_and_down =
    record { at = ten - hour; act = Act.Silence (record { id = None; new_id = 7; matchers = Some (is (codes "severity") (codes "warning") ∷ []); starts_at = ten - hour; ends_at = ten + 8 * hour }) }
    ∷ posts ten (long lat ∷ alert down (Some ten) (Some (ten + 20 * minute)) ∷ [])
    ∷ ticks (ten + minute)
    ∷ ticks (ten + 20 * minute)
    ∷ []

pub explained_as_waiting : verdicts (run_of config_by_severity (take 2 lat_and_down)) (from_entries lat) ≡ verdict.AtRoute 0 (codes "ops") (Some (codes "webhook", 0)) (finding.Waiting (ten + 30 * second)) ∷ []
unfolding replaying verdicts
explained_as_waiting = refl

pub explained_as_inhibited : verdicts (run_of config_by_severity (take 3 lat_and_down)) (from_entries lat) ≡ verdict.AtRoute 0 (codes "ops") (Some (codes "webhook", 0)) (finding.Inhibited 0 (from_entries down)) ∷ []
unfolding replaying verdicts
explained_as_inhibited = refl

pub explained_as_silenced : verdicts (run_of config_by_severity lat_and_down) (from_entries lat) ≡ verdict.AtRoute 0 (codes "ops") (Some (codes "webhook", 0)) (finding.Silenced 7) ∷ []
unfolding replaying verdicts
explained_as_silenced = refl

pub a_short_alert_is_explained_as_ended : verdicts (run_of config_ops short_alert) (from_entries x) ≡ verdict.Ended ∷ []
unfolding replaying verdicts
a_short_alert_is_explained_as_ended = refl

pub a_removed_alert_is_unknown : verdicts (run_of config_ops (short_alert ++ ticks (ten + 30 * minute) ∷ [])) (from_entries x) ≡ verdict.Unknown ∷ []
unfolding replaying verdicts
a_removed_alert_is_unknown = refl

-- the receiver has no integration
abbrev config_silent : Config
config_silent = record config_ops { receivers = record { name = codes "ops"; integrations = [] } ∷ [] }

pub explained_as_nowhere : verdicts (run_of config_silent (posts ten (long x ∷ []) ∷ ticks (ten + 30 * second) ∷ [])) (from_entries x)
    ≡ verdict.AtRoute 0 (codes "ops") None finding.Nowhere ∷ []
unfolding replaying verdicts
explained_as_nowhere = refl

-- a reload drops the groups and makes them anew
abbrev xa : List (Text × Text)
xa = (codes "alertname", codes "X") ∷ (codes "team", codes "a") ∷ []

abbrev by_team : Config
by_team = record config_ops { routes = record (root (codes "ops")) { group_by = Some (Named (codes "team" ∷ [])) } ∷ [] }

abbrev reloaded : List Event
reloaded = posts ten (long xa ∷ []) ∷ ticks (ten + 30 * second) ∷ record { at = ten + 2 * minute; act = Act.Reload (Ok by_team) } ∷ []

abbrev timer_shown : RouteLabels × GroupTimer → List (Text × Text) × (Bool × Moment)
timer_shown group = (entries group.0.labels, (group.1.flushed, group.1.next_flush))

pub a_reload_makes_the_groups_anew : map timer_shown (entries (run_of config_ops reloaded).timers) ≡ ((codes "team", codes "a") ∷ [], (false, ten + 2 * minute)) ∷ []
unfolding replaying
a_reload_makes_the_groups_anew = refl

pub the_group_before_a_reload : map timer_shown (entries (run_of config_ops (take 2 reloaded)).timers) ≡ ((codes "alertname", codes "X") ∷ [], (true, ten + 5 * minute + 30 * second)) ∷ []
unfolding replaying
the_group_before_a_reload = refl
