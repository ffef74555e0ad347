-- A flush of a quiet group sets the group timer and changes nothing else.
use Rattle.std.proofs.Common.{[], ◌≡◌, ℕ, Bool, true, false, not, ◌&&◌, List, ◌∷◌, Option, Some, None, option_map, if◌then◌else◌, ◌+◌, ◌≤◌, ◌<◌, nat_le, nat_lt, refl, ap, ◌∙◌, arith, inl, inr}
use Rattle.std.specs.List.{list_all, find, filter, fold}
use Rattle.std.specs.Option.{option_or, is_none}
use Rattle.std.proofs.lemmas.Bool.Decides.{nat_tests}
use Rattle.amr_labels.specs.Map.{Map, get, entries}
use Rattle.amr_labels.specs.Labels.{LabelSet}
use Rattle.amr_time.specs.Time.{Moment, Span}
use Rattle.amr_config.specs.declared.stated.rule.InhibitRule.{InhibitRule}
use Rattle.amr_config.specs.declared.stated.receiver.Integration.{Integration}
use Rattle.amr_config.specs.Stated.Config.{Config}
use Rattle.amr_config.specs.Routing.{is_active_at, is_muted_at, active_intervals_of, mute_intervals_of, integrations_of, repeat_interval_of}
use Rattle.amr_rules.specs.declared.alert.Alert.{Alert}
use Rattle.amr_rules.specs.declared.silence.Silence.{Silence}
use Rattle.amr_rules.specs.declared.dedup.LogEntry.{LogEntry}
use Rattle.amr_rules.specs.Muting.{Alerts, inhibits, rule_mutes, inhibition_from, silencer_of, silences_labels}
use Rattle.amr_rules.specs.Silences.{Silences}
use Rattle.amr_rules.specs.Dedup.{LabelSets, needs_update}
use Rattle.amr_config.specs.declared.route_labels.RouteLabels.{RouteLabels}
use Rattle.amr_config.specs.RouteLabels.{route_labels_cmp}
use Rattle.amr_engine.specs.State.State.{State, members}
use Rattle.amr_engine.specs.Stages.{taken_away}
use Rattle.amr_engine.specs.Flush.{Members, let_through, firing_of, resolved_of, labels_of, log_key_of, notify_if_due, notify_receiver, drop_resolved, run_pipeline, flush}
use Rattle.amr_engine.specs.declared.state.notification.GroupTimer.{GroupTimer}
use Rattle.amr_engine.specs.declared.state.notification.Notification.{Notification}
use Rattle.amr_engine.specs.declared.verdict.Finding.TheVariants.{Inhibited, OutsideActive, TimeMuted, Silenced}
use Rattle.amr_engine.proofs.FewerNotified.{all_filter, fewer_notified}
use Rattle.amr_engine.proofs.Listed.{none_left}
use Rattle.amr_engine.specs.Quiet.{is_outside, no_alert_ends, no_source_ends, no_silence_turns, IsStill, all_fire_until, is_untimed, no_repeat_before, is_notified, are_notified, with_timer_reset, IsAllNotified, IsQuietWith, IsQuiet}

-- two tests find the same where they agree on each element
found_same : {X : Type 0} (ok p q : X → Bool) → ((x : X) → ok x ≡ true → p x ≡ q x) → (xs : List X) → list_all ok xs ≡ true → find p xs ≡ find q xs
found_same ok p q same [] all = refl
found_same ok p q same (x ∷ xs) all = grind (arith, same x, found_same ok p q same xs)

-- two moments between which nothing of a sort happens
module _ (from until at : Moment) (not_before : from ≤ at) (before : at < until) where
  past_same : (m : Moment) → is_outside from until m ≡ true → nat_le m at ≡ nat_le m from
  past_same m out = grind (arith, nat_tests)

  ahead_same : (m : Moment) → is_outside from until m ≡ true → nat_lt at m ≡ nat_lt from m
  ahead_same m out = grind (arith, nat_tests)

  -- ---- what mutes an alert

  inhibits_same : (rule : InhibitRule) (target : LabelSet) (source : LabelSet × Alert) → is_outside from until source.1.ends_at ≡ true
      → inhibits at rule source target ≡ inhibits from rule source target
  inhibits_same rule target source out = ap (λ b. not b && rule_mutes rule source.0 target) (past_same source.1.ends_at out)

  by_rules_same : (alerts : Alerts) → no_alert_ends from until alerts ≡ true → (target : LabelSet) (n : ℕ) (rules : List InhibitRule)
      → inhibition_from n at target alerts rules ≡ inhibition_from n from target alerts rules
  by_rules_same alerts still target n [] = refl
  by_rules_same alerts still target n (rule ∷ rules) = λ i.
      option_or (option_map (λ source. (n, source)) (option_map (λ source. source.0)
      (found_same (λ stored. is_outside from until stored.1.ends_at) (λ source. inhibits at rule source target) (λ source. inhibits from rule source target) (inhibits_same rule target) (entries alerts) still i)))
      (by_rules_same alerts still target (n + 1) rules i)

  inhibition_same : (alerts : Alerts) (rules : List InhibitRule) → no_source_ends from until rules alerts ≡ true → (target : LabelSet) (n : ℕ)
      → inhibition_from n at target alerts rules ≡ inhibition_from n from target alerts rules
  inhibition_same alerts [] still target n = refl
  inhibition_same alerts (rule ∷ rules) still target n = by_rules_same alerts still target n (rule ∷ rules)

  silences_same : (labels : LabelSet) (stored : ℕ × Silence) → (is_outside from until stored.1.starts_at && is_outside from until stored.1.ends_at) ≡ true
      → silences_labels at stored.1 labels ≡ silences_labels from stored.1 labels
  silences_same labels stored out = grind (arith, past_same stored.1.starts_at, ahead_same stored.1.ends_at)

  silencer_same : (silences : Silences) → no_silence_turns from until silences ≡ true → (labels : LabelSet) → silencer_of at labels silences ≡ silencer_of from labels silences
  silencer_same silences still labels =
      ap (option_map (λ stored. stored.0)) (found_same _ (λ stored. silences_labels at stored.1 labels) (λ stored. silences_labels from stored.1 labels) (silences_same labels) (entries silences) still)

  active_same : (config : Config) (route : ℕ) → is_untimed config route ≡ true → is_active_at config route at ≡ is_active_at config route from
  active_same config route untimed = grind (arith, nat_tests, none_left (active_intervals_of config route))

  muted_same : (config : Config) (route : ℕ) → is_untimed config route ≡ true → is_muted_at config route at ≡ is_muted_at config route from
  muted_same config route untimed = grind (arith, nat_tests, none_left (mute_intervals_of config route))

  taken_same : (s : State) (route : ℕ) → IsStill s from until → is_untimed s.config route ≡ true
      → (labels : LabelSet) → taken_away s at route labels ≡ taken_away s from route labels
  unfolding taken_away
  taken_same s route still untimed labels = λ i.
      option_or (option_map (λ found. Inhibited found.0 found.1) (inhibition_same s.alerts s.config.rules still.sources labels 0 i))
      (option_or (if active_same s.config route untimed i then None else Some OutsideActive)
      (option_or (if muted_same s.config route untimed i then Some TimeMuted else None)
      (option_map Silenced (silencer_same s.silences still.silences labels i))))

  -- ---- which members fire

  pub firing_all : (ms : Members) → all_fire_until until ms ≡ true → firing_of at ms ≡ ms
  firing_all [] fire = refl
  firing_all (m ∷ ms) fire = grind (arith, nat_tests, firing_all ms)

  pub resolved_none : (ms : Members) → all_fire_until until ms ≡ true → resolved_of at ms ≡ []
  resolved_none [] fire = refl
  resolved_none (m ∷ ms) fire = grind (arith, nat_tests, resolved_none ms)

  fire_kept : (p : LabelSet × Alert → Bool) (ms : Members) → all_fire_until until ms ≡ true → all_fire_until until (filter p ms) ≡ true
  fire_kept p ms fire = all_filter (λ (m : LabelSet × Alert). nat_le until m.1.ends_at) p ms fire

  -- ---- who is notified

  still_notified : (entry : Option LogEntry) (firing resolved : LabelSets) (send_resolved : Bool) (interval : Span)
      → needs_update entry firing resolved send_resolved from interval ≡ false → no_repeat_before until interval entry ≡ true
      → needs_update entry firing resolved send_resolved at interval ≡ false
  unfolding needs_update
  still_notified entry firing resolved send_resolved interval notified later = grind (arith, nat_tests)

  notify_none : (s : State) (group : RouteLabels) (ms : Members) → all_fire_until until ms ≡ true → (integration : Integration) → is_notified s group from until (labels_of ms) integration ≡ true
      → notify_if_due at group ms s integration ≡ s
  unfolding notify_if_due
  notify_none s group ms fire integration notified =
      grind (arith, firing_all ms fire, resolved_none ms fire, still_notified (get s.log (log_key_of s.config group integration)) (labels_of ms) (labels_of []) integration.send_resolved (repeat_interval_of s.config group.route))

  notify_integrations_none : (s : State) (group : RouteLabels) (ms : Members) → all_fire_until until ms ≡ true → (integrations : List Integration)
      → list_all (is_notified s group from until (labels_of ms)) integrations ≡ true → fold (notify_if_due at group ms) s integrations ≡ s
  notify_integrations_none s group ms fire [] notified = refl
  notify_integrations_none s group ms fire (integration ∷ integrations) notified =
      grind (arith, notify_none s group ms fire integration, notify_integrations_none s group ms fire integrations)

  notify_receiver_none : (s : State) (group : RouteLabels) (ms : Members) → all_fire_until until ms ≡ true → are_notified s group from until ms ≡ true → notify_receiver at group ms s ≡ s
  notify_receiver_none s group [] fire notified = refl
  notify_receiver_none s group (m ∷ ms) fire notified = notify_integrations_none s group (m ∷ ms) fire (integrations_of s.config group.route) notified

  drop_none : (s : State) (group : RouteLabels) (m : LabelSet × Alert) (ms : Members) → all_fire_until until (m ∷ ms) ≡ true → drop_resolved at group (m ∷ ms) s ≡ s
  unfolding drop_resolved
  drop_none s group m ms fire = grind (arith, firing_all (m ∷ ms) fire, resolved_none (m ∷ ms) fire)

  -- ---- the flush

  pub pipeline_none : (s : State) (group : RouteLabels) (ms : Members) → IsQuietWith s group from until ms → run_pipeline at group ms s ≡ s
  pipeline_none s group [] quiet = refl
  pipeline_none s group (m ∷ ms) (inl quiet) =
      let through : let_through s at group.route (m ∷ ms) ≡ let_through s from group.route (m ∷ ms) =
      (λ i. filter (λ member. is_none (taken_same s group.route quiet.still quiet.untimed member.0 i)) (m ∷ ms)) in
      let fire = fire_kept (λ member. is_none (taken_away s from group.route member.0)) (m ∷ ms) quiet.fire in
      grind (arith, through, notify_receiver_none s group (let_through s from group.route (m ∷ ms)) fire quiet.notified, drop_none s group m ms quiet.fire)
  pipeline_none s group (m ∷ ms) (inr notified) =
      let through : LabelSet × Alert → Bool = λ member. is_none (taken_away s at group.route member.0) in
      let none = notify_receiver_none s group (filter through (m ∷ ms)) (fire_kept through (m ∷ ms) notified.fire) (fewer_notified s group from until through (m ∷ ms) notified.notified) in
      grind (arith, none, drop_none s group m ms notified.fire)

-- ---- what keeps a group quiet

-- states with the same configuration, alerts and silences
module _ (s t : State) (config : t.config ≡ s.config) (alerts : t.alerts ≡ s.alerts) (silences : t.silences ≡ s.silences) where
  pub still_alike : (from until : Moment) → IsStill s from until → IsStill t from until
  still_alike from until still = record {
    sources = (λ i. no_source_ends from until (config i).rules (alerts i)) ∙ still.sources;
    silences = ap (no_silence_turns from until) silences ∙ still.silences;
  }

  pub through_alike : (at : Moment) (route : ℕ) (ms : Members) → let_through t at route ms ≡ let_through s at route ms
  unfolding taken_away
  through_alike at route ms = λ i. let_through (record t { config = config i; alerts = alerts i; silences = silences i }) at route ms

-- states with the same configuration and log entries of the group
module _ (s t : State) (group : RouteLabels) (config : t.config ≡ s.config)
    (log : (integration : Integration) → get t.log (log_key_of s.config group integration) ≡ get s.log (log_key_of s.config group integration)) (from until : Moment) where
  pub notified_alike : (ms : Members) → are_notified t group from until ms ≡ are_notified s group from until ms
  notified_alike [] = refl
  notified_alike (m ∷ ms) =
      let interval : Span = repeat_interval_of s.config group.route in
      ap (λ (c : Config). are_notified (record t { config = c }) group from until (m ∷ ms)) config
      ∙ (λ i. list_all (λ integration. not (needs_update (log integration i) (labels_of (m ∷ ms)) (labels_of []) integration.send_resolved from interval) && no_repeat_before until interval (log integration i))
      (integrations_of s.config group.route))

  -- the group stays quiet, if what is still stays so and the same members are let through
  pub quiet_alike : (IsStill s from until → IsStill t from until) → ((ms : Members) → let_through t from group.route ms ≡ let_through s from group.route ms)
      → (ms : Members) → IsQuietWith s group from until ms → IsQuietWith t group from until ms
  quiet_alike still through [] quiet = tt
  quiet_alike still through (m ∷ ms) (inl quiet) = inl (record {
    fire = quiet.fire;
    still = still quiet.still;
    untimed = ap (λ (c : Config). is_untimed c group.route) config ∙ quiet.untimed;
    notified = notified_alike (let_through t from group.route (m ∷ ms)) ∙ ap (are_notified s group from until) (through (m ∷ ms)) ∙ quiet.notified;
  })
  quiet_alike still through (m ∷ ms) (inr notified) = inr (record { fire = notified.fire; notified = notified_alike (m ∷ ms) ∙ notified.notified })

-- quietness depends on neither the clock nor the group timers nor the notifications
pub stays_quiet : (s : State) (moment : Moment) (timers : Map route_labels_cmp GroupTimer) (notes : List Notification) (group : RouteLabels) (from until : Moment)
    → IsQuiet s group from until → IsQuiet (record s { moment = moment; timers = timers; notes = notes }) group from until
unfolding IsQuiet members
stays_quiet s moment timers notes group from until quiet =
    let t : State = record s { moment = moment; timers = timers; notes = notes } in
    quiet_alike s t group refl (λ _. refl) from until (still_alike s t refl refl refl from until) (through_alike s t refl refl refl from group.route) (members s group) quiet

-- a flush of a quiet group sets the group timer and changes nothing else
pub quiet_flush : (s : State) (group : RouteLabels) (from until at : Moment) → from ≤ at → at < until → IsQuiet s group from until
    → flush at group s ≡ with_timer_reset at group s
unfolding flush IsQuiet members
quiet_flush s group from until at not_before before quiet =
    pipeline_none from until at not_before before (with_timer_reset at group s) group (members s group)
    (stays_quiet s s.moment (with_timer_reset at group s).timers s.notes group from until quiet)

-- a group whose members were all notified of is quiet, whatever mutes them
pub quiet_if_notified : (s : State) (group : RouteLabels) (from until : Moment) (ms : Members) → IsAllNotified s group from until ms → IsQuietWith s group from until ms
quiet_if_notified s group from until [] notified = tt
quiet_if_notified s group from until (m ∷ ms) notified = inr notified

pub notified_flush : (s : State) (group : RouteLabels) (from until at : Moment) → from ≤ at → at < until → IsAllNotified s group from until (members s group)
    → flush at group s ≡ with_timer_reset at group s
unfolding IsQuiet
notified_flush s group from until at not_before before notified =
    quiet_flush s group from until at not_before before (quiet_if_notified s group from until (members s group) notified)

pub notified_quiet : (s : State) (group : RouteLabels) (from until : Moment) → IsAllNotified s group from until (members s group) → IsQuiet s group from until
unfolding IsQuiet
notified_quiet s group from until notified = quiet_if_notified s group from until (members s group) notified
