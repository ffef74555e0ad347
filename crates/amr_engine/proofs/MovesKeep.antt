-- What each step of a flush keeps, and each removal, every move keeps.
use Rattle.std.proofs.Common.{[], true, List, ◌∷◌, Some, ◌+◌, fold, arith}
use Rattle.std.proofs.lemmas.Bool.{cond_both}
use Rattle.amr_labels.specs.Labels.{LabelSet}
use Rattle.amr_time.specs.Time.{Moment}
use Rattle.amr_config.specs.declared.stated.receiver.Integration.{Integration}
use Rattle.amr_config.specs.Routing.{integrations_of, group_interval_of}
use Rattle.amr_config.specs.declared.route_labels.RouteLabels.{RouteLabels}
use Rattle.amr_config.specs.RouteLabels.{on_route}
use Rattle.amr_rules.specs.declared.alert.Alert.{Alert}
use Rattle.amr_engine.specs.State.State.{State, members}
use Rattle.amr_engine.specs.State.Dues.{Due}
use Rattle.amr_engine.specs.declared.state.due.Kind.TheVariants.{AlertRemoval, GroupRemoval}
use Rattle.amr_engine.specs.declared.state.notification.GroupTimer.{GroupTimer}
use Rattle.amr_engine.specs.Flush.{Members, firing_of, resolved_of, set_timer, log_key_of, let_through, record_notification, notify_if_due, notify_receiver, drop_member, mark_if_empty, drop_resolved, run_pipeline, flush}
use Rattle.amr_engine.specs.Moves.{move, move_of_kind}

-- what each step keeps holds after all of them
pub fold_holds : {A : Type 0} (P : State → Type 0) (f : State → A → State) → ((s : State) (a : A) → P s → P (f s a)) → (items : List A) (s : State) → P s → P (fold f s items)
fold_holds P f step [] s holds = holds
fold_holds P f step (a ∷ items) s holds = fold_holds P f step items (f s a) (step s a holds)

-- what is kept where a notification is recorded is kept where each integration of a group is notified
module _ (P : State → Type 0) (at : Moment) (group : RouteLabels) (ms : Members)
    (recorded : (s : State) (integration : Integration) → P s → P (record_notification at group (log_key_of s.config group integration) integration.send_resolved ms s)) where
  pub notify_holds : (s : State) (integration : Integration) → P s → P (notify_if_due at group ms s integration)
  unfolding notify_if_due
  notify_holds s integration holds = cond_both _ (record_notification at group (log_key_of s.config group integration) integration.send_resolved ms s) s P (λ _. recorded s integration holds) (λ _. holds)

pub notify_receiver_holds : (P : State → Type 0) (at : Moment) (group : RouteLabels) (ms : Members)
    → ((s : State) (integration : Integration) → P s → P (record_notification at group (log_key_of s.config group integration) integration.send_resolved ms s)) → (s : State) → P s → P (notify_receiver at group ms s)
notify_receiver_holds P at group [] recorded s holds = holds
notify_receiver_holds P at group (m ∷ ms) recorded s holds = fold_holds P (notify_if_due at group (m ∷ ms)) (notify_holds P at group (m ∷ ms) recorded) (integrations_of s.config group.route) s holds

-- what the group's timer and members leaving don't change holds after they leave
module _ (P : State → Type 0) (group : RouteLabels) (timed : (change : GroupTimer → GroupTimer) (s : State) → P s → P (set_timer group change s))
    (dropped : (s : State) (member : LabelSet × Alert) → P s → P (drop_member group s member)) where
  mark_holds : (at : Moment) (ms : Members) (s : State) → P s → P (mark_if_empty at group ms s)
  mark_holds at ms s holds = grind (arith, timed (λ timer. record timer { empty_since = Some at }) s holds)

  pub drop_holds : (at : Moment) (ms : Members) (s : State) → P s → P (drop_resolved at group ms s)
  unfolding drop_resolved
  drop_holds at ms s holds = mark_holds at (firing_of at ms) (fold (drop_member group) s (resolved_of at ms)) (fold_holds P (drop_member group) dropped (resolved_of at ms) s holds)

  module _ (recorded : (at : Moment) (ms : Members) (s : State) (integration : Integration) → P s → P (record_notification at group (log_key_of s.config group integration) integration.send_resolved ms s)) where
    pipeline_holds : (at : Moment) (ms : Members) (s : State) → P s → P (run_pipeline at group ms s)
    pipeline_holds at [] s holds = holds
    pipeline_holds at (m ∷ ms) s holds =
        let through : Members = let_through s at group.route (m ∷ ms) in
        drop_holds at (m ∷ ms) (notify_receiver at group through s) (notify_receiver_holds P at group through (recorded at through) s holds)

    pub flush_holds : (at : Moment) (s : State) → P s → P (flush at group s)
    unfolding flush
    flush_holds at s holds =
        let reset : GroupTimer → GroupTimer = λ timer. record timer { next_flush = at + group_interval_of s.config group.route; flushed = true } in
        pipeline_holds at (members s group) (set_timer group reset s) (timed reset s holds)

-- what flushes and removals keep, each move keeps
module _ (P : State → Type 0) (flushed : (group : RouteLabels) (at : Moment) (s : State) → P s → P (flush at group s))
    (alert_removed : (due : Due) (s : State) → P s → P (move_of_kind AlertRemoval due s)) (group_removed : (due : Due) (s : State) → P s → P (move_of_kind GroupRemoval due s)) where
  pub move_holds : (due : Due) (s : State) → P s → P (move due s)
  unfolding move
  move_holds due s holds = grind (arith, alert_removed due s holds, group_removed due s holds, flushed (on_route due.route due.labels) due.moment s holds)
