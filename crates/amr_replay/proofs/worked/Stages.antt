-- Inhibition, silences, resolved alerts, what is removed, and the routes that are chosen.
use Rattle.std.specs.Prelude.{◌≡◌, ℕ, Bool, true, false, List, [], ◌∷◌, Option, Some, None, codes, ◌+◌, ◌-◌, ◌*◌, map, length}
use Rattle.std.proofs.Common.{refl}
use Rattle.amr_labels.specs.Map.{entries, from_entries, computing}
use Rattle.amr_labels.specs.Labels.{Text}
use Rattle.amr_labels.specs.Matcher.Matchers.{Matcher}
use Rattle.amr_time.specs.Time.{Moment, second, minute, hour}
use Rattle.amr_config.specs.declared.stated.route.Route.{Route}
use Rattle.amr_config.specs.Stated.Config.{Config}
use Rattle.amr_config.specs.Routing.{chosen_routes, routing}
use Rattle.amr_events.specs.Actions.Events.{Event, Act}
use Rattle.amr_rules.specs.declared.silence.Silence.{Silence}
use Rattle.amr_rules.specs.declared.dedup.LogEntry.{LogEntry}
use Rattle.amr_engine.specs.declared.state.notification.LogKey.{LogKey}
use Rattle.amr_engine.specs.Events.{run_of, replaying}
use Rattle.amr_replay.proofs.worked.Setting.{ten, root, config_ops, is, config_by_severity, x, alert, long, posts, ticks, short_alert, notified}

-- only the critical alert is notified
abbrev severity : Text → List (Text × Text)
severity level = (codes "severity", level) ∷ []

pub an_inhibited_alert_is_not_told : map notified (run_of config_by_severity (posts ten (long (severity (codes "critical")) ∷ long (severity (codes "warning")) ∷ [])
    ∷ ticks (ten + 30 * second) ∷ [])).notes ≡ (ten + 30 * second, (severity (codes "critical") ∷ [], [])) ∷ []
unfolding replaying
an_inhibited_alert_is_not_told = refl

-- an alert that matches both sides doesn't inhibit itself
abbrev config_on_both_sides : Config
config_on_both_sides = record config_ops {
  rules = record {
    source = is (codes "a") (codes "1") ∷ [];
    target = is (codes "a") (codes "1") ∷ [];
    equal = [];
  } ∷ [];
}

abbrev both : List (Text × Text)
both = (codes "a", codes "1") ∷ (codes "alertname", codes "X") ∷ []

pub an_alert_does_not_inhibit_itself : map notified (run_of config_on_both_sides (posts ten (long both ∷ []) ∷ ticks (ten + 30 * second) ∷ [])).notes
    ≡ (ten + 30 * second, (both ∷ [], [])) ∷ []
unfolding replaying
an_alert_does_not_inhibit_itself = refl

-- the old silence is ended, and a new one is made
abbrev first_id : ℕ
first_id = 0x00000000_0000_4000_8000_000000000001

abbrev second_id : ℕ
second_id = 0x00000000_0000_4000_8000_000000000002

abbrev team : Text → List Matcher
team name = is (codes "team") name ∷ []

abbrev silence : Moment → Option ℕ → ℕ → List Matcher → Event
silence at id new_id matchers = record {
  at = at;
  act = Act.Silence (record {
    id = id;
    new_id = new_id;
    matchers = Some matchers;
    starts_at = ten - hour;
    ends_at = ten + 2 * hour;
  });
}

abbrev ends_of : ℕ × Silence → ℕ × (Moment × Moment)
ends_of stored = (stored.0, (stored.1.starts_at, stored.1.ends_at))

pub another_list_of_matchers_makes_a_new_silence : map ends_of (entries (run_of config_ops (silence (ten - hour) None first_id (team (codes "a"))
    ∷ silence ten (Some first_id) second_id (team (codes "b")) ∷ [])).silences)
    ≡ (first_id, (ten - hour, ten)) ∷ (second_id, (ten, ten + 2 * hour)) ∷ []
unfolding replaying
another_list_of_matchers_makes_a_new_silence = refl

-- by mail
abbrev config_mail : Config
config_mail = record config_ops { receivers = record { name = codes "ops"; integrations = record { kind = codes "email"; place = 0; send_resolved = false } ∷ [] } ∷ [] }

abbrev short_page : List Event
short_page = posts ten (alert x (Some ten) (Some (ten + 3 * minute)) ∷ []) ∷ ticks (ten + 5 * minute + 30 * second) ∷ []

abbrev logged : LogKey × LogEntry → Moment × (List (List (Text × Text)) × List (List (Text × Text)))
logged entry = (entry.1.time, (map (λ e. entries e.0) (entries entry.1.firing), map (λ e. entries e.0) (entries entry.1.resolved)))

pub mail_is_not_told_of_the_end : map notified (run_of config_mail short_page).notes ≡ (ten + 30 * second, (x ∷ [], [])) ∷ []
unfolding replaying
mail_is_not_told_of_the_end = refl

pub the_log_keeps_what_mail_is_not_told : map logged (entries (run_of config_mail short_page).log) ≡ (ten + 5 * minute + 30 * second, ([], x ∷ [])) ∷ []
unfolding replaying
the_log_keeps_what_mail_is_not_told = refl

pub a_webhook_is_told_of_the_end : map notified (run_of config_ops short_page).notes ≡ (ten + 30 * second, (x ∷ [], [])) ∷ (ten + 5 * minute + 30 * second, ([], x ∷ [])) ∷ []
unfolding replaying
a_webhook_is_told_of_the_end = refl

-- no notification, no group, and the alert is removed at half past
pub a_short_alert_leaves_no_group : length (entries (run_of config_ops short_alert).timers) ≡ 0
unfolding replaying
a_short_alert_leaves_no_group = refl

pub a_short_alert_stays_stored : length (entries (run_of config_ops short_alert).alerts) ≡ 1
unfolding replaying
a_short_alert_stays_stored = refl

-- a tree of three children
abbrev child : Matcher → Bool → Route
child matcher continues = record (root []) { parent = Some 0; matchers = matcher ∷ []; continues = continues; receiver = None; group_by = None }

abbrev config_tree : Config
config_tree = record config_ops { routes = root (codes "ops") ∷ child (is (codes "team") (codes "a")) true ∷ child (is (codes "team") (codes "a")) false ∷ child (is (codes "severity") (codes "x")) false ∷ [] }

pub continue_lets_an_alert_go_on : chosen_routes config_tree (from_entries ((codes "team", codes "a") ∷ (codes "severity", codes "x") ∷ [])) ≡ 1 ∷ 2 ∷ []
unfolding computing routing
continue_lets_an_alert_go_on = refl

pub no_route_of_the_team : chosen_routes config_tree (from_entries ((codes "team", codes "c") ∷ (codes "severity", codes "x") ∷ [])) ≡ 3 ∷ []
unfolding computing routing
no_route_of_the_team = refl

pub the_root_takes_what_no_child_takes : chosen_routes config_tree (from_entries ((codes "team", codes "c") ∷ [])) ≡ 0 ∷ []
unfolding computing routing
the_root_takes_what_no_child_takes = refl
