-- In every run, each alert that an entry of the log has among those that fire is in the entry's
-- notification.
use Rattle.std.proofs.Common.{◌≡◌, Bool, true, List, [], ◌∷◌, ◌++◌, Ok, if◌then◌else◌, map, Contains, refl, sym, ap, ◌∙◌, subst, inl, inr}
use Rattle.std.proofs.lemmas.List.Elements.{Contains-append_left, Contains-append_right}
use Rattle.amr_labels.specs.Map.{entries, empty, get-empty}
use Rattle.amr_labels.specs.Set.{contains}
use Rattle.amr_labels.specs.Labels.{LabelSet}
use Rattle.amr_time.specs.Time.{Moment}
use Rattle.amr_config.specs.Stated.Config.{Config}
use Rattle.amr_config.specs.Routing.{chosen_routes}
use Rattle.amr_rules.specs.declared.alert.Alert.{Alert}
use Rattle.amr_rules.specs.declared.dedup.LogEntry.{LogEntry}
use Rattle.amr_events.specs.Actions.Events.{Event, Act}
use Rattle.amr_engine.specs.State.Dues.{Due}
use Rattle.amr_engine.specs.declared.state.notification.LogKey.{LogKey}
use Rattle.amr_engine.specs.declared.state.notification.Notification.{Notification}
use Rattle.amr_config.specs.declared.route_labels.RouteLabels.{RouteLabels}
use Rattle.amr_engine.specs.State.State.{State, start, log_key_cmp, log_key_cmp_total, log_key_cmp-IsAntisymmetric, insert_into_groups, insert_into_group}
use Rattle.amr_engine.specs.Flush.{Members, firing_of, resolved_of, labels_of, log_key_of, notified_firing, notified_resolved, notifications_of, record_notification}
use Rattle.amr_engine.specs.Moves.{move, Advances}
use Rattle.amr_engine.specs.Events.{put, with_config, after_act, run_of}
use Rattle.amr_engine.specs.Told.{HasNotification, LogIsNotified, after_moves}
use Rattle.amr_engine.proofs.Invariant.{holds_after_run, holds_between}
use Rattle.amr_engine.proofs.Invariant as invariant
use Rattle.amr_engine.proofs.MovesKeep.{fold_holds}
use Rattle.amr_engine.proofs.MovesKeep as moves
use Rattle.amr_engine.proofs.Listed.{none_listed, listed_first, listed_in_set}
use Rattle.amr_engine.proofs.PlacedLists.{get-insert_cases}

-- ---- the notification of an entry

notified_in : (at : Moment) (key : LogKey) (labels : LabelSet) (notes all : List Notification) → ((n : Notification) → Contains notes n → Contains all n) → HasNotification notes at key labels → HasNotification all at key labels
notified_in at key labels notes all listed has = record {
  notification = has.notification;
  listed = listed has.notification has.listed;
  moment = has.moment;
  of_key = has.of_key;
  fires = has.fires;
}

same_labels : (ms : Members) → map (λ alert. alert.labels) (map notified_firing ms) ≡ map (λ member. member.0) ms
same_labels [] = refl
same_labels (m ∷ ms) = ap (λ (rest : List LabelSet). m.0 ∷ rest) (same_labels ms)

module _ (at : Moment) (group : RouteLabels) (key : LogKey) (send_resolved : Bool) where
  -- if something fires, a notification is appended, which says so
  has_fired : (firing resolved : Members) (labels : LabelSet) → contains (labels_of firing) labels ≡ true → HasNotification (notifications_of at group key send_resolved firing resolved) at key labels
  has_fired [] resolved labels fires = absurd (none_listed labels (listed_in_set [] labels fires))
  has_fired (m ∷ ms) resolved labels fires =
      let notification : Notification = record { at = at; route = group.route; key = key; firing = map notified_firing (m ∷ ms); resolved = if send_resolved then map notified_resolved resolved else [] } in
      record {
        notification = notification;
        listed = listed_first notification [];
        moment = refl;
        of_key = refl;
        fires = subst (λ (ls : List LabelSet). Contains ls labels) (sym (same_labels (m ∷ ms))) (listed_in_set (map (λ member. member.0) (m ∷ ms)) labels fires);
      }

  module _ (ms : Members) (s : State) where
    abbrev written : LogEntry
    written = record { time = at; firing = labels_of (firing_of at ms); resolved = labels_of (resolved_of at ms) }

    abbrev appended : List Notification
    appended = notifications_of at group key send_resolved (firing_of at ms) (resolved_of at ms)

    recorded : LogIsNotified s → LogIsNotified (record_notification at group key send_resolved ms s)
    recorded holds = λ asked entry labels logged fires. elim (get-insert_cases log_key_cmp_total log_key_cmp-IsAntisymmetric s.log key written asked entry logged) [
      | inl is ↦ subst (λ (x : LogEntry × LogKey). HasNotification (s.notes ++ appended) x.0.time x.1 labels) (λ i. (is.1 i, sym is.0 i))
          (notified_in at key labels appended (s.notes ++ appended) (Contains-append_right s.notes appended)
          (has_fired (firing_of at ms) (resolved_of at ms) labels (ap (λ (x : LogEntry). contains x.firing labels) is.1 ∙ fires)))
      | inr was ↦ notified_in entry.time asked labels s.notes (s.notes ++ appended) (Contains-append_left s.notes appended) (holds asked entry labels was fires)
    ]

pub move_holds : (due : Due) (s : State) → LogIsNotified s → LogIsNotified (move due s)
move_holds = moves.move_holds LogIsNotified
    (λ group. moves.flush_holds LogIsNotified group (λ change s holds. holds) (λ s member holds. holds)
    (λ at ms s integration. recorded at group (log_key_of s.config group integration) integration.send_resolved ms s))
    (λ due s holds. holds) (λ due s holds. holds)

-- ---- an action

inserted_holds : (s : State) (alert : LabelSet × Alert) → LogIsNotified s → LogIsNotified (insert_into_groups s alert)
unfolding insert_into_groups
inserted_holds s alert holds = fold_holds LogIsNotified (insert_into_group alert.0 alert.1) (λ s route holds. holds) (chosen_routes s.config alert.0) s holds

put_holds : (s : State) (alert : LabelSet × Alert) → LogIsNotified s → LogIsNotified (put s alert)
unfolding put
put_holds s alert holds = inserted_holds _ _ holds

with_config_holds : (s : State) (config : Config) → LogIsNotified s → LogIsNotified (with_config s config)
unfolding with_config
with_config_holds s config holds = fold_holds LogIsNotified insert_into_groups inserted_holds (entries s.alerts) (record s { config = config; placements = empty; timers = empty }) holds

act_holds : (s : State) (act : Act) (after : State) → LogIsNotified s → after_act s act ≡ Ok after → LogIsNotified after
act_holds s act after holds =
    invariant.act_holds LogIsNotified s holds (λ alerts. fold_holds LogIsNotified put put_holds alerts s holds) (λ silences. holds) (λ config. with_config_holds s config holds) act after

-- ---- a run

start_holds : (config : Config) → LogIsNotified (start config)
start_holds config = λ key entry labels logged fires. absurd (cc (get-empty log_key_cmp key, logged))

pub log_is_notified : (config : Config) (events : List Event) → LogIsNotified (run_of config events)
log_is_notified config events =
    holds_after_run (λ at s. LogIsNotified s) (λ t u s order holds. holds) (λ at s holds. holds) (λ at s due is holds. move_holds due s holds) act_holds config events (start_holds config)

-- and inside the moves of an event, after those that are made before another one
pub between_is_notified : (at : Moment) (before rest : List Due) (s end : State) → Advances at s (before ++ rest) end → LogIsNotified s → LogIsNotified (after_moves s before)
between_is_notified =
    holds_between (λ at s. LogIsNotified s) (λ t u s order holds. holds) (λ at s holds. holds) (λ at s due is holds. move_holds due s holds) act_holds
