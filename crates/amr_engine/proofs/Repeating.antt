-- A flush writes an entry again with the same sets only after the repeat interval.
use Rattle.std.proofs.Common.{[], ◌≡◌, ◌⊎◌, ◌<◌, ◌+◌, Bool, true, ◌∷◌, Some, refl, sym, ap, ◌∙◌, subst, inl, inr, arith}
use Rattle.std.proofs.lemmas.List.Folds.{list_all-map}
use Rattle.std.proofs.lemmas.Bool.{cond_both}
use Rattle.amr_labels.specs.Map.{get, insert, entries}
use Rattle.amr_labels.specs.Set.{contains, is_subset}
use Rattle.amr_time.specs.Time.{Moment, Span}
use Rattle.amr_config.specs.declared.stated.receiver.Integration.{Integration}
use Rattle.amr_config.specs.Stated.Config.{Config}
use Rattle.amr_config.specs.Routing.{integrations_of, repeat_interval_of}
use Rattle.amr_rules.specs.declared.dedup.LogEntry.{LogEntry}
use Rattle.amr_rules.specs.Dedup.{LabelSets, needs_update}
use Rattle.amr_rules.proofs.Subsets.{items_contained}
use Rattle.amr_engine.specs.declared.state.notification.LogKey.{LogKey}
use Rattle.amr_config.specs.declared.route_labels.RouteLabels.{RouteLabels}
use Rattle.amr_engine.specs.State.Dues.{Due}
use Rattle.amr_engine.specs.declared.state.due.Kind.{Kind}
use Rattle.amr_engine.specs.declared.state.due.Kind.TheVariants.{GroupFlush}
use Rattle.amr_config.specs.RouteLabels.{on_route}
use Rattle.amr_engine.specs.State.State.{State, log_key_cmp_total, log_key_cmp-IsAntisymmetric, members}
use Rattle.amr_engine.specs.Flush.{Members, firing_of, resolved_of, labels_of, log_key_of, let_through, record_notification, notify_if_due, notify_receiver, run_pipeline, flush}
use Rattle.amr_engine.specs.Told.{RepeatsWait}
use Rattle.amr_engine.specs.Moves.{move, move_of_kind}
use Rattle.amr_engine.proofs.MovesKeep.{fold_holds, drop_holds}
use Rattle.amr_engine.proofs.PlacedLists.{same_or_apart, get-inserted, get-insert_apart}
use Rattle.std.proofs.lemmas.Bool.Decides.{nat_tests}

-- ---- the dedup check of the sets that are there already

all_contained : (found : LabelSets) → is_subset found found ≡ true
all_contained found = list_all-map (contains found) (λ e. e.0) (entries found) ∙ items_contained found

same_again : (old : LogEntry) (send_resolved : Bool) (now : Moment) (interval : Span) → needs_update (Some old) old.firing old.resolved send_resolved now interval ≡ true → old.time + interval < now
unfolding needs_update
same_again old send_resolved now interval due = grind (arith, nat_tests, all_contained old.firing, all_contained old.resolved)

-- ---- the turns of the integrations

module _ (at : Moment) (group : RouteLabels) (ms : Members) (config : Config) (key : LogKey) (old : LogEntry) where
  abbrev written : LogEntry
  written = record { time = at; firing = labels_of (firing_of at ms); resolved = labels_of (resolved_of at ms) }

  -- the entry is the old one, or the new one, for which it was due
  abbrev IsOldOrDue : State → Type 0
  IsOldOrDue s = (s.config ≡ config) × ((get s.log key ≡ Some old) ⊎ ((get s.log key ≡ Some written)
      × ((send_resolved : Bool) × (needs_update (Some old) written.firing written.resolved send_resolved at (repeat_interval_of config group.route) ≡ true))))

  -- an entry is written at a key
  module _ (s : State) (at_key : LogKey) (send_resolved : Bool) (due : needs_update (get s.log at_key) written.firing written.resolved send_resolved at (repeat_interval_of s.config group.route) ≡ true) where
    after_due : IsOldOrDue s → IsOldOrDue (record_notification at group at_key send_resolved ms s)
    after_due is = elim (same_or_apart log_key_cmp_total log_key_cmp-IsAntisymmetric key at_key) [
      | inl same ↦ (
        is.0,
        inr (
          ap (get (insert s.log at_key written)) same ∙ get-inserted log_key_cmp_total log_key_cmp-IsAntisymmetric s.log at_key written,
          elim is.1 [
            | inl was ↦ (send_resolved, sym (λ i. needs_update ((ap (get s.log) (sym same) ∙ was) i) written.firing written.resolved send_resolved at (repeat_interval_of (is.0 i) group.route)) ∙ due)
            | inr now ↦ now.1
          ],
        ),
      )
      | inr apart ↦
          let found = get-insert_apart log_key_cmp_total log_key_cmp-IsAntisymmetric s.log at_key written key apart.1 in
          (is.0, elim is.1 [ inl was ↦ inl (found ∙ was) | inr now ↦ inr (found ∙ now.0, now.1) ])
    ]

  notify_due : (s : State) (integration : Integration) → IsOldOrDue s → IsOldOrDue (notify_if_due at group ms s integration)
  unfolding notify_if_due
  notify_due s integration is =
      let at_key : LogKey = log_key_of s.config group integration in
      cond_both (needs_update (get s.log at_key) written.firing written.resolved integration.send_resolved at (repeat_interval_of s.config group.route))
      (record_notification at group at_key integration.send_resolved ms s) s IsOldOrDue (λ due. after_due s at_key integration.send_resolved due is) (λ not_due. is)

  -- and then it has the old sets only if the interval is over
  waits : (s : State) (new : LogEntry) → IsOldOrDue s → get s.log key ≡ Some new → new.firing ≡ old.firing → new.resolved ≡ old.resolved
      → (new ≡ old) ⊎ (old.time + repeat_interval_of config group.route < new.time)
  waits s new is found firing resolved = elim is.1 [
    | inl was ↦ let same : new ≡ old = cc in inl same
    | inr now ↦ inr (let later : old.time + repeat_interval_of config group.route < new.time = grind (arith, same_again old now.1.0 at (repeat_interval_of config group.route)) in later)
  ]

-- ---- a flush

notify_receiver_due : (at : Moment) (group : RouteLabels) (ms : Members) (s : State) (key : LogKey) (old : LogEntry) → get s.log key ≡ Some old → IsOldOrDue at group ms s.config key old (notify_receiver at group ms s)
notify_receiver_due at group [] s key old was = (refl, inl was)
notify_receiver_due at group (m ∷ ms) s key old was =
    fold_holds (IsOldOrDue at group (m ∷ ms) s.config key old) (notify_if_due at group (m ∷ ms)) (notify_due at group (m ∷ ms) s.config key old) (integrations_of s.config group.route) s (refl, inl was)

pipeline_due : (at : Moment) (group : RouteLabels) (ms : Members) (s : State) (key : LogKey) (old : LogEntry) → get s.log key ≡ Some old
    → (through : Members) × IsOldOrDue at group through s.config key old (run_pipeline at group ms s)
pipeline_due at group [] s key old was = ([], (refl, inl was))
pipeline_due at group (m ∷ ms) s key old was =
    let through : Members = let_through s at group.route (m ∷ ms) in
    (through, drop_holds (IsOldOrDue at group through s.config key old) group (λ change s is. is) (λ s member is. is) at (m ∷ ms) (notify_receiver at group through s) (notify_receiver_due at group through s key old was))

flush_waits : (at : Moment) (group : RouteLabels) (s : State) → RepeatsWait s group.route (flush at group s)
unfolding flush
flush_waits at group s = λ key last entry was found firing resolved.
    let due = pipeline_due at group (members s group) _ key last was in waits at group due.0 s.config key last (flush at group s) entry due.1 found firing resolved

-- a flush writes an entry with the sets of the last one only after the repeat interval
pub repeats_wait : (due : Due) (s : State) → due.kind ≡ GroupFlush → RepeatsWait s due.route (move due s)
unfolding move
repeats_wait due s is_flush = subst (λ (kind : Kind). RepeatsWait s due.route (move_of_kind kind due s)) (sym is_flush) (flush_waits due.moment (on_route due.route due.labels) s)
