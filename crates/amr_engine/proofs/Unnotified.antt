-- What an event does doesn't depend on the notifications before it.
use Rattle.std.proofs.Common.{[], ◌≡◌, ℕ, Bool, List, ◌∷◌, ◌++◌, Option, Some, None, Result, Ok, Err, fold, drop_at, refl, sym, ap, ◌∙◌, append_assoc, append-nil, arith}
use Rattle.std.specs.Option.{option_map, option_map_or}
use Rattle.amr_config.specs.Routing.{integrations_of, chosen_routes}
use Rattle.amr_labels.specs.Labels.{LabelSet}
use Rattle.amr_labels.specs.Map.{entries, empty}
use Rattle.amr_time.specs.Time.{Moment}
use Rattle.amr_config.specs.declared.stated.receiver.Integration.{Integration}
use Rattle.amr_config.specs.Stated.Config.{Config}
use Rattle.amr_rules.specs.declared.alert.Alert.{Alert}
use Rattle.amr_events.specs.Posts.Reasons.{Reason}
use Rattle.amr_events.specs.Actions.Events.{Event, Act}
use Rattle.amr_engine.specs.declared.state.due.Kind.{Kind}
use Rattle.amr_engine.specs.declared.state.due.Kind.TheVariants.{AlertRemoval, GroupRemoval, GroupFlush}
use Rattle.amr_engine.specs.declared.state.notification.LogKey.{LogKey}
use Rattle.amr_engine.specs.declared.state.notification.Notification.{Notification}
use Rattle.amr_config.specs.declared.route_labels.RouteLabels.{RouteLabels}
use Rattle.amr_config.specs.RouteLabels.{on_route}
use Rattle.amr_engine.specs.State.State.{State, members, insert_into_groups, insert_into_group}
use Rattle.amr_engine.specs.State.Dues.{Due, dues, next_due}
use Rattle.amr_engine.specs.Stages.{taken_away}
use Rattle.amr_engine.specs.Flush.{Members, notify_if_due, notify_receiver, record_notification, notifications_of, drop_member, mark_if_empty, drop_resolved, run_pipeline, flush, firing_of, resolved_of, let_through, log_key_of}
use Rattle.amr_engine.specs.Runs as run
use Rattle.amr_engine.specs.Moves.{move, move_of_kind, advance}
use Rattle.amr_engine.proofs.RunsLaws.{run_holds, run_within-complete}
use Rattle.amr_engine.specs.Events.{put, put_all, with_config, on_ok, after_act, at_moment, finish, judge, act_within, do_within, do_event, after_event, skipped_of, outcome_from, outcome_of, without_notifications, move_limit}

-- Moves read neither the clock nor the notifications.
module _ (clock : Moment → Moment) (earlier : List Notification) where
  -- the state with another clock, and with earlier notifications before its own
  abbrev beside : State → State
  beside s = record s { moment = clock s.moment; notes = earlier ++ s.notes }

  fold_beside : {A : Type 0} (f : State → A → State) → ((s : State) (a : A) → f (beside s) a ≡ beside (f s a)) → (xs : List A) (s : State) → fold f (beside s) xs ≡ beside (fold f s xs)
  fold_beside f same [] s = refl
  fold_beside f same (x ∷ xs) s = ap (λ (y : State). fold f y xs) (same s x) ∙ fold_beside f same xs (f s x)

  -- ---- a flush

  recorded_beside : (at : Moment) (group : RouteLabels) (key : LogKey) (send_resolved : Bool) (ms : Members) (s : State)
      → record_notification at group key send_resolved ms (beside s) ≡ beside (record_notification at group key send_resolved ms s)
  recorded_beside at group key send_resolved ms s = λ i. record (record_notification at group key send_resolved ms s) { moment = clock s.moment; notes = append_assoc earlier s.notes (notifications_of at group key send_resolved (firing_of at ms) (resolved_of at ms)) i }

  notify_beside : (at : Moment) (group : RouteLabels) (ms : Members) (s : State) (i : Integration) → notify_if_due at group ms (beside s) i ≡ beside (notify_if_due at group ms s i)
  unfolding notify_if_due
  notify_beside at group ms s i = grind (arith, recorded_beside at group (log_key_of s.config group i) i.send_resolved ms s)

  notify_receiver_beside : (at : Moment) (group : RouteLabels) (ms : Members) (s : State) → notify_receiver at group ms (beside s) ≡ beside (notify_receiver at group ms s)
  notify_receiver_beside at group [] s = refl
  notify_receiver_beside at group (m ∷ ms) s = fold_beside (notify_if_due at group (m ∷ ms)) (notify_beside at group (m ∷ ms)) (integrations_of s.config group.route) s

  mark_beside : (at : Moment) (group : RouteLabels) (ms : Members) (s : State) → mark_if_empty at group ms (beside s) ≡ beside (mark_if_empty at group ms s)
  mark_beside at group ms s = grind arith

  drop_beside : (at : Moment) (group : RouteLabels) (ms : Members) (s : State) → drop_resolved at group ms (beside s) ≡ beside (drop_resolved at group ms s)
  unfolding drop_resolved
  drop_beside at group ms s =
      ap (mark_if_empty at group (firing_of at ms)) (fold_beside (drop_member group) (λ _ _. refl) (resolved_of at ms) s)
      ∙ mark_beside at group (firing_of at ms) (fold (drop_member group) s (resolved_of at ms))

  pipeline_beside : (at : Moment) (group : RouteLabels) (ms : Members) (s : State) → run_pipeline at group ms (beside s) ≡ beside (run_pipeline at group ms s)
  unfolding taken_away
  pipeline_beside at group [] s = refl
  pipeline_beside at group (m ∷ ms) s =
      ap (drop_resolved at group (m ∷ ms)) (notify_receiver_beside at group (let_through s at group.route (m ∷ ms)) s)
      ∙ drop_beside at group (m ∷ ms) (notify_receiver at group (let_through s at group.route (m ∷ ms)) s)

  flush_beside : (at : Moment) (group : RouteLabels) (s : State) → flush at group (beside s) ≡ beside (flush at group s)
  unfolding flush members
  flush_beside at group s = pipeline_beside at group (members s group) _

  -- ---- the moves

  kind_beside : (kind : Kind) (d : Due) (s : State) → move_of_kind kind d (beside s) ≡ beside (move_of_kind kind d s)
  kind_beside AlertRemoval d s = refl
  kind_beside GroupRemoval d s = refl
  kind_beside GroupFlush d s = flush_beside d.moment (on_route d.route d.labels) s

  pub move_beside : (d : Due) (s : State) → move d (beside s) ≡ beside (move d s)
  unfolding move
  move_beside d s = kind_beside d.kind d s

  pub next_due_beside : (at : Moment) (s : State) → next_due at (beside s) ≡ next_due at s
  unfolding next_due dues
  next_due_beside at s = refl

module _ (earlier : List Notification) where
  -- the state with earlier notifications before its own
  abbrev after : State → State
  after s = record s { notes = earlier ++ s.notes }

  abbrev after_moves : List Due × State → List Due × State
  after_moves r = (r.0, after r.1)

  after_step_after : (d : Due) (o : Option (List Due × State)) → option_map (run.after_step (next_due 0) move d) (option_map after_moves o) ≡ option_map after_moves (option_map (run.after_step (next_due 0) move d) o)
  after_step_after d o = grind arith

  advance_after : (limit : ℕ) (at : Moment) (s : State) → advance limit at (after s) ≡ option_map after_moves (advance limit at s)
  advance_after limit at s =
      run_holds (next_due at) move (λ l s o. advance l at (after s) ≡ option_map after_moves o)
      (λ l s none. run_within-complete (next_due at) move l (after s) [] (after s) (next s ∙ none, refl) (omega arith))
      (λ s d some. ap (λ (o : Option Due). option_map_or (λ d. None) o (Some ([], after s))) (next s ∙ some))
      (λ l s d o some rest.
      ap (λ (o : Option Due). option_map_or (λ d. option_map (run.after_step (next_due at) move d) (advance l at (move d (after s)))) o (Some ([], after s))) (next s ∙ some)
      ∙ ap (λ (x : State). option_map (run.after_step (next_due at) move d) (advance l at x)) (move_beside (λ m. m) earlier d s)
      ∙ ap (option_map (run.after_step (next_due at) move d)) rest ∙ after_step_after d o) limit s
    where
      next : (s : State) → next_due at (after s) ≡ next_due at s
      next = next_due_beside (λ m. m) earlier at

  -- ---- the action

  inserted_after : (s : State) (alert : LabelSet × Alert) → insert_into_groups (after s) alert ≡ after (insert_into_groups s alert)
  unfolding insert_into_groups
  inserted_after s alert = fold_beside (λ m. m) earlier (insert_into_group alert.0 alert.1) (λ _ _. refl) (chosen_routes s.config alert.0) s

  put_after : (s : State) (alert : LabelSet × Alert) → put (after s) alert ≡ after (put s alert)
  unfolding put
  put_after s alert = inserted_after _ _

  put_all_after : (s : State) (alerts : List (LabelSet × Alert)) → put_all (after s) alerts ≡ on_ok after (put_all s alerts)
  put_all_after s alerts = grind (arith, fold_beside (λ m. m) earlier put put_after alerts s)

  with_config_after : (s : State) (config : Config) → with_config (after s) config ≡ after (with_config s config)
  unfolding with_config
  with_config_after s config = fold_beside (λ m. m) earlier insert_into_groups inserted_after (entries s.alerts) (record s { config = config; placements = empty; timers = empty })

  act_after : (s : State) (act : Act) → after_act (after s) act ≡ on_ok after (after_act s act)
  unfolding after_act
  act_after s act = grind (arith, put_all_after s, with_config_after s)

  -- ---- the event

  finish_after : (event : Event) (o : Option (List Due × State)) → finish event (option_map after_moves o) ≡ on_ok after_moves (finish event o)
  finish_after event o = grind (arith, λ (r : List Due × State). act_after (at_moment event.at r.1) event.act)

  judge_after : (limit : ℕ) (s : State) (event : Event) (r : Result State Reason) → judge limit (after s) event (on_ok after r) ≡ on_ok after_moves (judge limit s event r)
  judge_after limit s event r = grind (arith, advance_after limit event.at s, finish_after event (advance limit event.at s))

  act_within_after : (limit : ℕ) (s : State) (event : Event) → act_within limit (after s) event ≡ on_ok after_moves (act_within limit s event)
  act_within_after limit s event = grind (arith, act_after (at_moment event.at s) event.act, judge_after limit s event)

  do_within_after : (limit : ℕ) (s : State) (event : Event) → do_within limit (after s) event ≡ on_ok after_moves (do_within limit s event)
  unfolding do_within
  do_within_after limit s event = grind (arith, act_within_after limit s event)

-- ---- an event after which the notifications before it are dropped

whole : (s : State) → after s.notes (without_notifications s) ≡ s
whole s = λ i. record s { notes = append-nil s.notes i }

done_whole : (s : State) (event : Event) → do_event s event ≡ on_ok (after_moves s.notes) (do_event (without_notifications s) event)
done_whole s event = ap (λ (x : State). do_event x event) (sym (whole s)) ∙ do_within_after s.notes move_limit (without_notifications s) event

skipped_same : (s : State) (act : Act) → skipped_of (without_notifications s) act ≡ skipped_of s act
skipped_same s act = grind arith

outcome_same : (s : State) (event : Event) (r : Result (List Due × State) Reason) → outcome_from (without_notifications s) event r ≡ outcome_from s event (on_ok (after_moves s.notes) r)
outcome_same s event r = grind (arith, skipped_same (at_moment event.at s) event.act, drop_at s.notes)

-- what an event does can be seen without the notifications before it
pub outcome_without : (s : State) (event : Event) → outcome_of (without_notifications s) event ≡ outcome_of s event
unfolding outcome_of
outcome_without s event = outcome_same s event (do_event (without_notifications s) event) ∙ ap (outcome_from s event) (sym (done_whole s event))

after_same : (s : State) (r : Result (List Due × State) Reason)
    → without_notifications (elim r [ Ok done ↦ done.1 | Err reason ↦ without_notifications s ]) ≡ without_notifications (elim (on_ok (after_moves s.notes) r) [ Ok done ↦ done.1 | Err reason ↦ s ])
after_same s r = grind arith

-- and leads to the same state, apart from these notifications
pub after_without : (s : State) (event : Event) → without_notifications (after_event (without_notifications s) event) ≡ without_notifications (after_event s event)
unfolding after_event
after_without s event =
    after_same s (do_event (without_notifications s) event)
    ∙ ap (λ (r : Result (List Due × State) Reason). without_notifications (elim r [ Ok done ↦ done.1 | Err reason ↦ s ])) (sym (done_whole s event))
