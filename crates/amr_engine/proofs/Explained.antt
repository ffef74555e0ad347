-- An alert that is explained as `Told` is in a notification, if all of the log was notified.
use Rattle.std.proofs.Common.{[], ◌≡◌, ℕ, Bool, List, ◌∷◌, Option, Some, None, IsSomeAnd, if◌then◌else◌, option_map, unwrap_or, Contains, flat_map, refl, arith}
use Rattle.std.specs.Option.{option_or, option_map_or}
use Rattle.std.proofs.lemmas.Bool.{cond_both}
use Rattle.amr_labels.specs.Map.{get}
use Rattle.amr_labels.specs.Set.{contains}
use Rattle.amr_labels.specs.Labels.{Text, LabelSet}
use Rattle.amr_time.specs.Time.{Moment}
use Rattle.amr_config.specs.declared.stated.receiver.Integration.{Integration}
use Rattle.amr_config.specs.Routing.{chosen_routes, group_of, path_of, integrations_of, receiver_name_of, is_active_at, is_muted_at}
use Rattle.amr_rules.specs.declared.alert.Alert.{Alert}
use Rattle.amr_rules.specs.declared.dedup.LogEntry.{LogEntry}
use Rattle.amr_rules.specs.Alerts.{is_resolved_at}
use Rattle.amr_rules.specs.Muting.{inhibition_from, silencer_of}
use Rattle.amr_engine.specs.declared.state.notification.GroupTimer.{GroupTimer}
use Rattle.amr_engine.specs.declared.state.notification.LogKey.{LogKey}
use Rattle.amr_config.specs.declared.route_labels.RouteLabels.{RouteLabels}
use Rattle.amr_config.specs.RouteLabels.{on_route}
use Rattle.amr_engine.specs.State.State.{State}
use Rattle.amr_engine.specs.Stages.{by_inhibition, by_active_time, by_mute_time, taken_away}
use Rattle.amr_engine.specs.Flush.{log_key_of}
use Rattle.amr_engine.specs.declared.verdict.Finding.{Finding}
use Rattle.amr_engine.specs.declared.verdict.Finding.TheVariants.{Waiting, Inhibited, OutsideActive, TimeMuted, Silenced, Told, Due}
use Rattle.amr_engine.specs.declared.verdict.Verdict.{Verdict}
use Rattle.amr_engine.specs.declared.verdict.Verdict.TheVariants.{Unknown, Ended, AtRoute}
use Rattle.amr_engine.specs.Explain.{waiting, finding_of_entry, heard, finding, integrations_or_none, kind_and_place, verdict_at, verdicts_of_group, verdicts_at, verdicts_of_stored, verdicts}
use Rattle.amr_engine.specs.Told.{HasNotification, LogIsNotified, ToldIsNotified}
use Rattle.amr_engine.proofs.Listed.{none_listed, first_or_rest, from_map, from_flat_map}

-- ---- what goes before the log never says `Told`

abbrev IsNoTold : Option Finding → Type 0
IsNoTold found = (at : Moment) → found ≡ Some (Told at) → ⊥

neither : (o p : Option Finding) → IsNoTold o → IsNoTold p → IsNoTold (option_or o p)
neither o p first later = grind arith

-- a test between two, and what is made of a value
tested : (b : Bool) (o p : Option Finding) → IsNoTold o → IsNoTold p → IsNoTold (if b then o else p)
tested b o p if_true if_false = cond_both b o p IsNoTold (λ _. if_true) (λ _. if_false)

made : {A : Type 0} (f : A → Finding) → ((x : A) → IsNoTold (Some (f x))) → (o : Option A) → IsNoTold (option_map f o)
made f others o = grind arith

waiting_is_none : (timer : GroupTimer) → IsNoTold (waiting timer)
waiting_is_none timer = tested timer.flushed None (Some (Waiting timer.next_flush)) (λ at e. absurd (cc)) (λ at e. absurd (cc))

stage_is_none : (s : State) (now : Moment) (route : ℕ) (labels : LabelSet) → IsNoTold (taken_away s now route labels)
unfolding taken_away
stage_is_none s now route labels =
    neither (by_inhibition s now labels) _ (made (λ (found : ℕ × LabelSet). Inhibited found.0 found.1) (λ found at e. absurd (cc)) (inhibition_from 0 now labels s.alerts s.config.rules))
    (neither (by_active_time s now route) _ (tested (is_active_at s.config route now) None (Some OutsideActive) (λ at e. absurd (cc)) (λ at e. absurd (cc)))
    (neither (by_mute_time s now route) _ (tested (is_muted_at s.config route now) (Some TimeMuted) None (λ at e. absurd (cc)) (λ at e. absurd (cc)))
    (made Silenced (λ id at e. absurd (cc)) (silencer_of now labels s.silences))))

last_one : (o : Option Finding) (last : Finding) (at : Moment) → IsNoTold o → unwrap_or o last ≡ Told at → last ≡ Told at
last_one o last at none e = grind arith

-- ---- the log says it, and its entry has a notification

module _ (s : State) (labels : LabelSet) (notified : LogIsNotified s) where
  entry_told : (key : LogKey) (timer : GroupTimer) (at : Moment) (entry : LogEntry) (b : Bool) → get s.log key ≡ Some entry → contains entry.firing labels ≡ b
      → (if b then Told entry.time else Due timer.next_flush) ≡ Told at → HasNotification s.notes at key labels
  entry_told key timer at entry b is fires e = grind (arith, notified key entry labels)

  log_told : (key : LogKey) (timer : GroupTimer) (at : Moment) (o : Option LogEntry) → get s.log key ≡ o → finding_of_entry labels timer o ≡ Told at → HasNotification s.notes at key labels
  log_told key timer at None is e = absurd (cc)
  log_told key timer at (Some entry) is e = entry_told key timer at entry (contains entry.firing labels) is refl e

  abbrev AtIntegration : ℕ → Text → Option (Text × ℕ) → Moment → Type 0
  AtIntegration route receiver integration at = IsSomeAnd integration (λ named. HasNotification s.notes at (record {
    receiver = receiver;
    kind = named.0;
    place = named.1;
    group = group_of s.config route labels;
    path = path_of s.config route;
  }) labels)

  heard_told : (route : ℕ) (timer : GroupTimer) (at : Moment) (integration : Option Integration) → heard s (on_route route (group_of s.config route labels)) labels timer integration ≡ Told at
      → AtIntegration route (receiver_name_of s.config route) (option_map kind_and_place integration) at
  heard_told route timer at None e = absurd (cc)
  heard_told route timer at (Some integration) e =
      let key : LogKey = log_key_of s.config (on_route route (group_of s.config route labels)) integration in log_told key timer at (get s.log key) refl e

  finding_told : (route : ℕ) (timer : GroupTimer) (at : Moment) (integration : Option Integration) → finding s (on_route route (group_of s.config route labels)) labels integration timer ≡ Told at
      → AtIntegration route (receiver_name_of s.config route) (option_map kind_and_place integration) at
  finding_told route timer at integration e =
      heard_told route timer at integration
      (last_one _ _ at (neither (waiting timer) _ (waiting_is_none timer) (stage_is_none s s.moment route labels)) e)

  verdict_told : (chosen_route : ℕ) (timer : GroupTimer) (asked_of : Option Integration) (route : ℕ) (receiver : Text) (integration : Option (Text × ℕ)) (at : Moment)
      → verdict_at s (on_route chosen_route (group_of s.config chosen_route labels)) labels timer asked_of ≡ AtRoute route receiver integration (Told at)
      → AtIntegration route receiver integration at
  verdict_told chosen_route timer asked_of route receiver integration at e = grind (arith, finding_told chosen_route timer at asked_of)

  group_told : (chosen_route : ℕ) (o : Option GroupTimer) (route : ℕ) (receiver : Text) (integration : Option (Text × ℕ)) (at : Moment)
      → Contains (option_map_or (verdicts_of_group s (on_route chosen_route (group_of s.config chosen_route labels)) labels) o []) (AtRoute route receiver integration (Told at))
      → AtIntegration route receiver integration at
  group_told chosen_route None route receiver integration at listed = absurd (none_listed (AtRoute route receiver integration (Told at)) listed)
  group_told chosen_route (Some timer) route receiver integration at listed =
      let group : RouteLabels = on_route chosen_route (group_of s.config chosen_route labels) in
      let one = from_map (verdict_at s group labels timer) (integrations_or_none (integrations_of s.config chosen_route)) (AtRoute route receiver integration (Told at)) listed in
      verdict_told chosen_route timer one.0 route receiver integration at one.2

  routes_told : (routes : List ℕ) → ToldIsNotified s labels (flat_map (verdicts_at s labels) routes)
  routes_told routes = λ route receiver integration at listed.
      let at_route = from_flat_map (verdicts_at s labels) routes (AtRoute route receiver integration (Told at)) listed in
      group_told at_route.0 (get s.timers (on_route at_route.0 (group_of s.config at_route.0 labels))) route receiver integration at at_route.2

  no_other : (other : Verdict) → ((route : ℕ) (receiver : Text) (integration : Option (Text × ℕ)) (at : Moment) → other ≡ AtRoute route receiver integration (Told at) → ⊥) → ToldIsNotified s labels (other ∷ [])
  no_other other differs = λ route receiver integration at listed.
      grind (arith, first_or_rest other (AtRoute route receiver integration (Told at)) [] listed, none_listed (AtRoute route receiver integration (Told at)), differs route receiver integration at)

  stored_told : (o : Option Alert) → ToldIsNotified s labels (verdicts_of_stored s labels o)
  stored_told None = no_other Unknown (λ route receiver integration at e. absurd (cc))
  stored_told (Some alert) = cond_both (is_resolved_at s.moment alert) (Ended ∷ []) (flat_map (verdicts_at s labels) (chosen_routes s.config labels)) (ToldIsNotified s labels)
      (λ _. no_other Ended (λ route receiver integration at e. absurd (cc))) (λ _. routes_told (chosen_routes s.config labels))

  pub told_is_notified : ToldIsNotified s labels (verdicts s labels)
  unfolding verdicts
  told_is_notified = stored_told (get s.alerts labels)
