-- After a flush each integration of the group's receiver was notified of each member that fires and
-- that no stage mutes.
use Rattle.std.proofs.Common.{[], ◌≡◌, ℕ, Bool, true, false, not, List, ◌∷◌, ◌++◌, Option, Some, None, map, fold, Contains, is_none, refl, sym, ap, subst, inl, inr, arith, ◌∙◌}
use Rattle.std.proofs.lemmas.Bool.{cond_both}
use Rattle.amr_labels.specs.Map.{get}
use Rattle.amr_labels.specs.Set.{contains, is_subset, is_empty}
use Rattle.amr_labels.specs.Labels.{LabelSet}
use Rattle.amr_time.specs.Time.{Moment}
use Rattle.amr_config.specs.declared.stated.receiver.Integration.{Integration}
use Rattle.amr_config.specs.Routing.{integrations_of, repeat_interval_of}
use Rattle.amr_rules.specs.declared.alert.Alert.{Alert}
use Rattle.amr_rules.specs.declared.dedup.LogEntry.{LogEntry}
use Rattle.amr_rules.specs.Alerts.{is_resolved_at}
use Rattle.amr_rules.specs.Dedup.{LabelSets, needs_update}
use Rattle.amr_rules.proofs.Subsets.{some_listed}
use Rattle.amr_events.specs.Actions.Events.{Event}
use Rattle.amr_engine.specs.State.Dues.{Due}
use Rattle.amr_engine.specs.declared.state.due.Kind.{Kind}
use Rattle.amr_engine.specs.declared.state.due.Kind.TheVariants.{GroupFlush}
use Rattle.amr_engine.specs.declared.state.notification.LogKey.{LogKey}
use Rattle.amr_config.specs.declared.route_labels.RouteLabels.{RouteLabels}
use Rattle.amr_config.specs.RouteLabels.{on_route}
use Rattle.amr_engine.specs.State.State.{State, log_key_cmp_total, log_key_cmp-IsAntisymmetric, members}
use Rattle.amr_engine.specs.Stages.{taken_away}
use Rattle.amr_engine.specs.Flush.{Members, firing_of, resolved_of, labels_of, log_key_of, let_through, record_notification, notify_if_due, notify_receiver, run_pipeline, flush}
use Rattle.amr_engine.specs.Moves.{move, move_of_kind, Advances}
use Rattle.amr_engine.specs.Neutral.{Accepts}
use Rattle.amr_engine.specs.Told.{LogIsNotified, AllAreNotified, after_moves}
use Rattle.amr_engine.proofs.MovesLaws.{do_within-Does}
use Rattle.amr_engine.proofs.Told.{move_holds, between_is_notified}
use Rattle.amr_engine.proofs.PlacedLists.{get-inserted, same_or_apart, get-insert_apart}
use Rattle.amr_engine.proofs.MovesKeep.{fold_holds, drop_holds, notify_holds}
use Rattle.amr_engine.proofs.Listed.{none_listed, first_or_rest, listed_filter, listed_map, in_set, in_superset, listed_in_set}
use Rattle.amr_config.specs.Stated.Config.{Config}

-- the log has an entry of the key with the alert among those that fire
abbrev HasLogged : LogKey → LabelSet → State → Type 0
HasLogged key labels s = (entry : LogEntry) × (get s.log key ≡ Some entry) × (contains entry.firing labels ≡ true)

-- ---- the dedup check

some_fire : (ms : Members) (labels : LabelSet) → contains (labels_of ms) labels ≡ true → is_empty (labels_of ms) ≡ false
some_fire [] labels fires = absurd (none_listed labels (listed_in_set [] labels fires))
some_fire (m ∷ ms) labels fires = some_listed m.0 (map (λ member. member.0) ms)

module _ (at : Moment) (group : RouteLabels) (ms : Members) (labels : LabelSet) (fires : contains (labels_of (firing_of at ms)) labels ≡ true) where
  abbrev firing : LabelSets
  firing = labels_of (firing_of at ms)

  abbrev resolved : LabelSets
  resolved = labels_of (resolved_of at ms)

  abbrev key_at : State → Integration → LogKey
  key_at s integration = log_key_of s.config group integration

  -- without a new entry, the last one has it
  was_logged : (s : State) (integration : Integration) (o : Option LogEntry) → get s.log (key_at s integration) ≡ o
      → needs_update o firing resolved integration.send_resolved at (repeat_interval_of s.config group.route) ≡ false → HasLogged (key_at s integration) labels s
  unfolding needs_update
  was_logged s integration None is e = absurd (cc (ap not (some_fire (firing_of at ms) labels fires), e))
  was_logged s integration (Some entry) is e =
      let all : is_subset firing entry.firing ≡ true = grind (arith, e) in
      (entry, is, in_superset (map (λ member. member.0) (firing_of at ms)) entry.firing labels all (listed_in_set (map (λ member. member.0) (firing_of at ms)) labels fires))

  abbrev written : LogEntry
  written = record { time = at; firing = firing; resolved = resolved }

  logs_now : (s : State) (key : LogKey) (send_resolved : Bool) → HasLogged key labels (record_notification at group key send_resolved ms s)
  logs_now s key send_resolved = (written, get-inserted log_key_cmp_total log_key_cmp-IsAntisymmetric s.log key written, fires)

  logs_at : (s : State) (key : LogKey) (send_resolved : Bool) (asked : LogKey) → HasLogged asked labels s → HasLogged asked labels (record_notification at group key send_resolved ms s)
  logs_at s key send_resolved asked has = elim (same_or_apart log_key_cmp_total log_key_cmp-IsAntisymmetric asked key) [
    | inl same ↦ subst (λ (k : LogKey). HasLogged k labels (record_notification at group key send_resolved ms s)) (sym same) (logs_now s key send_resolved)
    | inr apart ↦ (has.0, get-insert_apart log_key_cmp_total log_key_cmp-IsAntisymmetric s.log key written asked apart.1 ∙ has.1, has.2)
  ]

  -- the integration's entry has it after its turn
  notify_logs : (s : State) (integration : Integration) → HasLogged (key_at s integration) labels (notify_if_due at group ms s integration)
  unfolding notify_if_due
  notify_logs s integration =
      cond_both (needs_update (get s.log (key_at s integration)) firing resolved integration.send_resolved at (repeat_interval_of s.config group.route))
      (record_notification at group (key_at s integration) integration.send_resolved ms s) s (HasLogged (key_at s integration) labels)
      (λ due. logs_now s (key_at s integration) integration.send_resolved) (λ not_due. was_logged s integration (get s.log (key_at s integration)) refl not_due)

  -- the configuration stays
  notify_config : (s : State) (integration : Integration) → (notify_if_due at group ms s integration).config ≡ s.config
  notify_config s integration = notify_holds (λ x. x.config ≡ s.config) at group ms (λ _ _ e. e) s integration refl

  -- and after the turns of others
  notify_leaves : (key : LogKey) (s : State) (integration : Integration) → HasLogged key labels s → HasLogged key labels (notify_if_due at group ms s integration)
  notify_leaves key = notify_holds (HasLogged key labels) at group ms
      (λ s integration has. logs_at s (key_at s integration) integration.send_resolved key has)

  each_logs : (integrations : List Integration) (s : State) (integration : Integration) → Contains integrations integration
      → HasLogged (key_at s integration) labels (fold (notify_if_due at group ms) s integrations)
  each_logs [] s integration listed = absurd (none_listed integration listed)
  each_logs (first ∷ rest) s integration listed =
      elim (first_or_rest first integration rest listed) [
        | inl same ↦ fold_holds (HasLogged (key_at s integration) labels) (notify_if_due at group ms) (notify_leaves (key_at s integration)) rest (notify_if_due at group ms s first)
            (subst (λ (i : Integration). HasLogged (key_at s i) labels (notify_if_due at group ms s first)) same (notify_logs s first))
        | inr later ↦ subst (λ (c : Config). HasLogged (log_key_of c group integration) labels (fold (notify_if_due at group ms) (notify_if_due at group ms s first) rest)) (notify_config s first)
            (each_logs rest (notify_if_due at group ms s first) integration later)
      ]

-- ---- a flush

module _ (at : Moment) (group : RouteLabels) (member : LabelSet × Alert) (fires : is_resolved_at at member.1 ≡ false) where
  among_firing : (ms : Members) → Contains ms member → contains (labels_of (firing_of at ms)) member.0 ≡ true
  among_firing ms listed =
      in_set (map (λ member. member.0) (firing_of at ms)) member.0
      (listed_map (λ member. member.0) (firing_of at ms) member (listed_filter (λ member. not (is_resolved_at at member.1)) ms member (ap not fires) listed))

  notify_receiver_logs : (ms : Members) (s : State) (integration : Integration) → Contains ms member → Contains (integrations_of s.config group.route) integration
      → HasLogged (log_key_of s.config group integration) member.0 (notify_receiver at group ms s)
  notify_receiver_logs [] s integration listed of = absurd (none_listed member listed)
  notify_receiver_logs (m ∷ ms) s integration listed of =
      each_logs at group (m ∷ ms) member.0 (among_firing (m ∷ ms) listed) (integrations_of s.config group.route) s integration of

  pipeline_logs : (ms : Members) (s : State) (integration : Integration) → Contains ms member → taken_away s at group.route member.0 ≡ None → Contains (integrations_of s.config group.route) integration
      → HasLogged (log_key_of s.config group integration) member.0 (run_pipeline at group ms s)
  pipeline_logs [] s integration listed unmuted of = absurd (none_listed member listed)
  pipeline_logs (m ∷ ms) s integration listed unmuted of =
      let through : Members = let_through s at group.route (m ∷ ms) in
      drop_holds (HasLogged (log_key_of s.config group integration) member.0) group (λ change s has. has) (λ s member has. has) at (m ∷ ms) (notify_receiver at group through s)
      (notify_receiver_logs through s integration (listed_filter (λ other. is_none (taken_away s at group.route other.0)) (m ∷ ms) member (ap is_none unmuted) listed) of)

  flush_logs : (s : State) (integration : Integration) → Contains (members s group) member → taken_away s at group.route member.0 ≡ None → Contains (integrations_of s.config group.route) integration
      → HasLogged (log_key_of s.config group integration) member.0 (flush at group s)
  unfolding flush taken_away
  flush_logs s integration listed unmuted of = pipeline_logs (members s group) _ integration listed unmuted of

-- a flush among the moves notifies all integrations, if all of the log was notified before
pub flush_notifies : (due : Due) (s : State) → due.kind ≡ GroupFlush → LogIsNotified s → AllAreNotified s due.moment (on_route due.route due.labels) (move due s)
unfolding move
flush_notifies due s is_flush notified = λ member to_notify integration of.
    let group : RouteLabels = on_route due.route due.labels in
    let has : HasLogged (log_key_of s.config group integration) member.0 (move due s) =
    subst (λ (kind : Kind). HasLogged (log_key_of s.config group integration) member.0 (move_of_kind kind due s)) (sym is_flush)
    (flush_logs due.moment group member to_notify.fires s integration to_notify.listed to_notify.unmuted of) in
    record {
      entry = has.0;
      logged = has.1;
      fires = has.2;
      notified = move_holds due s notified (log_key_of s.config group integration) has.0 member.0 has.1 has.2;
    }

no_part : (before later : List Due) (due : Due) → before ++ due ∷ later ≡ [] → ⊥
no_part [] later due e = absurd (cc)
no_part (first ∷ before) later due e = absurd (cc)

-- so does each flush among the moves of an accepted event
pub flushes_notify : (limit : ℕ) (s : State) (event : Event) (moves : List Due) (after : State) → LogIsNotified s → Accepts limit s event moves after
    → (before later : List Due) (due : Due) → moves ≡ before ++ due ∷ later → due.kind ≡ GroupFlush
    → AllAreNotified (after_moves s before) due.moment (on_route due.route due.labels) (move due (after_moves s before))
flushes_notify limit s event moves after notified accepted before later due parts is_flush = elim (do_within-Does limit s event moves after accepted) [
  | inl names ↦ absurd (no_part before later due (sym parts ∙ names.none))
  | inr acts ↦
      let run : Advances event.at s (before ++ due ∷ later) acts.moved = subst (λ (ds : List Due). Advances event.at s ds acts.moved) parts acts.advanced in
      flush_notifies due (after_moves s before) is_flush (between_is_notified event.at before (due ∷ later) s acts.moved run notified)
]
