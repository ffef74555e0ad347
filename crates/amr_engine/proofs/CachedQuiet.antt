-- The cache of quiet groups, and what keeps it true of the state.
use Rattle.std.proofs.Common.{[], ◌≡◌, ℕ, Bool, true, ◌&&◌, List, ◌∷◌, Option, Some, None, Result, option_map, ◌≤◌, ◌<◌, ◌+◌, nat_le, ◌==◌, length, ◌⊎◌, OnOk, OnErr, refl, sym, ap, ◌∙◌, subst, arith, get_or, drop, inl}
use Rattle.std.specs.Option.{option_or, is_none}
use Rattle.std.specs.List.{list_all, filter}
use Rattle.std.proofs.lemmas.List.{at_drop_more}
use Rattle.std.proofs.lemmas.Bool.Decides.{nat_tests}
use Rattle.std.proofs.lemmas.List.Sums.{list_all-from_AllPass}
use Rattle.std.proofs.lemmas.Result.{on_ok_weaker}
use Rattle.amr_labels.specs.Map.{Map, entries, get, insert, remove, empty, get-empty}
use Rattle.amr_labels.specs.Labels.{LabelSet}
use Rattle.amr_time.specs.Time.{Moment, Span}
use Rattle.amr_config.specs.declared.stated.receiver.Integration.{Integration}
use Rattle.amr_config.specs.Stated.Config.{Config}
use Rattle.amr_config.specs.Routing.{HasOwnPath}
use Rattle.amr_config.specs.Settled.{settings_of}
use Rattle.amr_config.specs.declared.settings.Settings.{Settings}
use Rattle.amr_rules.specs.declared.dedup.LogEntry.{LogEntry}
use Rattle.amr_rules.specs.Dedup.{LabelSets}
use Rattle.amr_config.specs.declared.stated.rule.InhibitRule.{InhibitRule}
use Rattle.amr_rules.specs.declared.alert.Alert.{Alert}
use Rattle.amr_rules.specs.declared.silence.Silence.{Silence}
use Rattle.amr_rules.specs.Muting.{Alerts, inhibition_from}
use Rattle.amr_rules.specs.Silences.{Silences}
use Rattle.amr_config.specs.declared.route_labels.RouteLabels.{RouteLabels}
use Rattle.amr_engine.specs.declared.state.notification.GroupTimer.{GroupTimer}
use Rattle.amr_engine.specs.declared.state.notification.Notification.{Notification}
use Rattle.amr_config.specs.RouteLabels.{route_labels_cmp}
use Rattle.amr_engine.specs.State.State.{State, members}
use Rattle.amr_tables.specs.Numbered.{Numbered}
use Rattle.amr_engine.specs.declared.verdict.Finding.TheVariants.{Inhibited}
use Rattle.amr_engine.specs.Stages.{by_active_time, by_mute_time, by_silence, taken_away}
use Rattle.amr_engine.specs.declared.quiet.Period.{Period}
use Rattle.amr_engine.specs.declared.quiet.QuietTime.{QuietTime}
use Rattle.amr_engine.specs.declared.quiet.QuietGroups.{QuietGroups}
use Rattle.amr_engine.specs.Events.{put}
use Rattle.amr_engine.specs.Flush.{Members, let_through, flush}
use Rattle.amr_engine.specs.Quiet.{is_outside, no_alert_ends, no_source_ends, no_silence_turns, all_fire_until, is_untimed, no_repeat_before, is_notified, are_notified, with_timer_reset, IsStill, IsQuiet, IsQuietWith, IsAllNotified, LeavesOthers}
use Rattle.amr_engine.specs.CachedQuiet.{Times, times_in, quiet_times, IsNotifiedIn, IsTrueTime, IsTrueOf, Outlasts, without_joined}
use Rattle.amr_engine.proofs.FewerNotified.{all_weaker}
use Rattle.amr_engine.proofs.QuietLaws.{still_alike, quiet_alike, quiet_flush, notified_quiet, stays_quiet}
use Rattle.amr_engine.proofs.NotifiedStays.{beside_notified, left_notified, other_key, still_cached, now_cached, left_by_post}
use Rattle.amr_engine.proofs.QuietStays.{flush_leaves, quiet_left}
use Rattle.amr_engine.proofs.Listed.{none_left}

-- ---- what is cached

-- a cache of no group is true of each state
pub nothing_cached : (cache : QuietGroups) → quiet_times cache ≡ empty → cache.still ≡ None → (s : State) → IsTrueOf cache s
nothing_cached cache times still s = grind (arith, λ (group : RouteLabels). get-empty {X = QuietTime} route_labels_cmp group)

-- one more group that is quiet, or none if there was no room
pub kept_if : {T E : Type 0} (r : Result T E) (cache : QuietGroups) (table : Numbered RouteLabels QuietTime) (group : RouteLabels) (time : QuietTime) (s : State)
    → OnOk r (times_in table ≡ insert (quiet_times cache) group time) → OnErr r (times_in table ≡ quiet_times cache)
    → IsTrueTime cache.generation s group time.period time.generation → IsTrueOf cache s → IsTrueOf (record cache { times = table }) s
kept_if r cache table group time s ok err is holds = grind (arith, now_cached (quiet_times cache) group time)

-- what is cached of a group, in a later state and perhaps a later generation
carried : (before now : ℕ) (s t : State) (group : RouteLabels) (period : Period) → t.config ≡ s.config → before ≤ now → (IsNotifiedIn s group period → IsNotifiedIn t group period)
    → (group.route < length s.config.routes → now ≡ before → IsQuiet s group period.from period.until → IsQuiet t group period.from period.until)
    → (generation : Option ℕ) → IsTrueTime before s group period generation → IsTrueTime now t group period generation
carried before now s t group period config later notified quiet None time = notified time
carried before now s t group period config later notified quiet (Some n) time = grind (arith, time, quiet time.there)

-- a cache stays true where all stays true that it may hold
pub held : (cache : QuietGroups) (s t : State) → t.config ≡ s.config → ((group : RouteLabels) (period : Period) → IsNotifiedIn s group period → IsNotifiedIn t group period)
    → ((group : RouteLabels) (from until : Moment) → IsQuiet s group from until → IsQuiet t group from until) → ((from until : Moment) → IsStill s from until → IsStill t from until)
    → IsTrueOf cache s → IsTrueOf cache t
held cache s t config notified quiet still holds = record {
  quiet = λ group time cached.
      let same : cache.generation ≤ cache.generation = omega arith in
      carried cache.generation cache.generation s t group time.period config same (notified group time.period) (λ _ _. quiet group time.period.from time.period.until) time.generation (holds.quiet group time cached);
  still = λ period cached. still period.from period.until (holds.still period cached);
}

-- in a new generation it is, where what it holds for all generations stays true
pub outlasted : (cache : QuietGroups) (next : ℕ) → cache.generation < next → (s t : State) → t.config ≡ s.config → Outlasts cache s t → IsTrueOf cache s
    → IsTrueOf (record cache { generation = next; still = None }) t
outlasted cache next later s t config outlasts holds = record {
  quiet = λ group time cached.
      let not_before : cache.generation ≤ next = omega (arith, later) in
      carried cache.generation next s t group time.period config not_before (outlasts group time cached) (λ _ same. absurd (omega (arith, same, later))) time.generation (holds.quiet group time cached);
  still = λ period cached. absurd (cc cached);
}

-- a period that was noted is still, as was found
pub noted_still : (s : State) (from until : Moment) (noted period : Period) → noted.from ≡ from → noted.until ≡ until → Some noted ≡ Some period → IsStill s from until → IsStill s period.from period.until
noted_still s from until noted period first last cached still = grind arith

-- ---- a flush

-- the flush of a group whose route has a path of its own leaves what is cached of other groups
pub flushed_alone : (cache : QuietGroups) (table : Numbered RouteLabels QuietTime) (s : State) (group : RouteLabels) (at : Moment) → HasOwnPath s.config group.route
    → times_in table ≡ remove (quiet_times cache) group → IsTrueOf cache s → IsTrueOf (record cache { times = table }) (flush at group s)
flushed_alone cache table s flushed at own are holds =
    let t : State = flush at flushed s in
    let left : LeavesOthers flushed s t = flush_leaves flushed at s in
    let same : cache.generation ≤ cache.generation = omega arith in
    record {
      quiet = λ group time cached.
          let still = still_cached (quiet_times cache) flushed group time (ap (λ (m : Times). get m group) (sym are) ∙ cached) in
          carried cache.generation cache.generation s t group time.period left.config same
          (λ notified. left_notified s t flushed left group still.0 (other_key s.config group flushed notified.own.is_there own still.0) time.period notified)
          (λ there _. quiet_left flushed s t left group still.0 (other_key s.config group flushed there own still.0) time.period.from time.period.until)
          time.generation (holds.quiet group time still.1);
      still = λ period cached. still_alike s t left.config left.alerts left.silences period.from period.until (holds.still period cached);
    }

-- the flush of a group on another route that is there leaves the groups notified
pub outlasts_flush : (cache : QuietGroups) (s : State) (group : RouteLabels) (at : Moment) → (HasOwnPath s.config group.route → ⊥) → group.route < length s.config.routes
    → Outlasts cache s (flush at group s)
outlasts_flush cache s flushed at shared there = λ group time cached notified.
    let other : group ≡ flushed → ⊥ = λ same. shared (subst (λ (g : RouteLabels). HasOwnPath s.config g.route) same notified.own) in
    left_notified s (flush at flushed s) flushed (flush_leaves flushed at s) group other
    (λ integration its e. other_key s.config flushed group there notified.own (λ same. other (sym same)) its integration (sym e)) time.period notified

-- a group is quiet while it is cached so
pub quiet_if_cached : (cache : QuietGroups) (s : State) (group : RouteLabels) (time : QuietTime) → get (quiet_times cache) group ≡ Some time
    → (time.generation ≡ None) ⊎ (time.generation ≡ Some cache.generation) → IsTrueOf cache s → IsQuiet s group time.period.from time.period.until
quiet_if_cached cache s group time cached present holds = grind (arith, holds.quiet group time cached, notified_quiet s group time.period.from time.period.until)

-- a flush of a group that is cached as quiet sets the group timer and changes nothing else
pub cached_quiet : (cache : QuietGroups) (s : State) (group : RouteLabels) (at : Moment) (time : QuietTime) → get (quiet_times cache) group ≡ Some time → time.period.from ≤ at → at < time.period.until
    → (time.generation ≡ None) ⊎ (time.generation ≡ Some cache.generation) → IsTrueOf cache s → flush at group s ≡ with_timer_reset at group s
cached_quiet cache s group at time cached not_before before present holds =
    quiet_flush s group time.period.from time.period.until at not_before before (quiet_if_cached cache s group time cached present holds)

-- ---- the post of an alert

pub joined_true : (cache : QuietGroups) (table : Numbered RouteLabels QuietTime) (s : State) (alert : LabelSet × Alert) → times_in table ≡ without_joined s.config (quiet_times cache) alert.0
    → IsTrueOf cache s → IsTrueOf (record cache { times = table }) s
joined_true cache table s alert are holds = record {
  quiet = λ group time cached.
      holds.quiet group time (left_by_post s (quiet_times cache) alert group time (ap (λ (m : Times). get m group) (sym are) ∙ cached)).1;
  still = holds.still;
}

pub joined_outlasts : (cache : QuietGroups) (table : Numbered RouteLabels QuietTime) (s : State) (alert : LabelSet × Alert) → times_in table ≡ without_joined s.config (quiet_times cache) alert.0
    → Outlasts (record cache { times = table }) s (put s alert)
joined_outlasts cache table s alert are = λ group time cached.
    (left_by_post s (quiet_times cache) alert group time (ap (λ (m : Times). get m group) (sym are) ∙ cached)).0

-- ---- the clock, group timers, notifications, stored alerts and silences

-- what is cached depends on neither the clock nor group timers nor notifications
pub stays_true : (s : State) (moment : Moment) (timers : Map route_labels_cmp GroupTimer) (notes : List Notification) (cache : QuietGroups) → IsTrueOf cache s
    → IsTrueOf cache (record s { moment = moment; timers = timers; notes = notes })
stays_true s moment timers notes cache holds =
    let t : State = record s { moment = moment; timers = timers; notes = notes } in
    held cache s t refl (beside_notified s moment s.alerts s.silences timers notes) (stays_quiet s moment timers notes) (still_alike s t refl refl refl) holds

-- notified groups stay so, whatever may mute their members
pub unmuted : (cache : QuietGroups) (s : State) (alerts : Alerts) (silences : Silences) → Outlasts cache s (record s { alerts = alerts; silences = silences })
unmuted cache s alerts silences = λ group time cached. beside_notified s s.moment alerts silences s.timers s.notes group time.period

-- ---- the removal of a stored alert

-- without inhibition rules, stored alerts mute nothing
ruleless : (at : Moment) (labels : LabelSet) (a b : Alerts) (rules : List InhibitRule) → rules ≡ [] → inhibition_from 0 at labels a rules ≡ inhibition_from 0 at labels b rules
ruleless at labels a b rules none = grind arith

module _ (s : State) (alerts : Alerts) (none : s.config.rules ≡ []) where
  taken_alike : (at : Moment) (route : ℕ) (labels : LabelSet) → taken_away (record s { alerts = alerts }) at route labels ≡ taken_away s at route labels
  unfolding taken_away
  taken_alike at route labels =
      ap (λ (o : Option (ℕ × LabelSet)). option_or (option_map (λ found. Inhibited found.0 found.1) o) (option_or (by_active_time s at route) (option_or (by_mute_time s at route) (by_silence s at labels))))
      (ruleless at labels alerts s.alerts s.config.rules none)

  still_unruled : (from until : Moment) → IsStill s from until → IsStill (record s { alerts = alerts }) from until
  still_unruled from until still = record { sources = grind arith; silences = still.silences }

  quiet_unruled : (group : RouteLabels) (from until : Moment) → IsQuiet s group from until → IsQuiet (record s { alerts = alerts }) group from until
  unfolding IsQuiet members
  quiet_unruled group from until quiet =
      quiet_alike s (record s { alerts = alerts }) group refl (λ _. refl) from until (still_unruled from until)
      (λ ms i. filter (λ member. is_none (taken_alike from group.route member.0 i)) ms) (members s group) quiet

  -- without inhibition rules, nothing that is cached depends on the stored alerts
  pub true_alike : (cache : QuietGroups) → IsTrueOf cache s → IsTrueOf cache (record s { alerts = alerts })
  true_alike cache holds = held cache s (record s { alerts = alerts }) refl (beside_notified s s.moment alerts s.silences s.timers s.notes) quiet_unruled still_unruled holds

-- ---- steps of the code

-- a cache that is true of a state is so of what is done, if that is the state
pub still_true : {T E : Type 0} (r : Result T E) (cache : QuietGroups) (s middle t : State) → IsTrueOf cache t → middle ≡ t → OnOk r (s ≡ middle) → OnOk r (IsTrueOf cache s)
still_true r cache s middle t holds is same = on_ok_weaker r (λ e. subst (IsTrueOf cache) (sym (e ∙ is)) holds) same

-- a group timer that is set leaves the cache true
pub reset_true : (s : State) (at : Moment) (group : RouteLabels) (cache : QuietGroups) → IsTrueOf cache s → IsTrueOf cache (with_timer_reset at group s)
reset_true s at group cache holds = stays_true s s.moment (with_timer_reset at group s).timers s.notes cache holds

-- ---- until when

outside_later : (from at until end m : Moment) → from ≤ at → end ≤ until → is_outside from until m ≡ true → is_outside at end m ≡ true
outside_later from at until end m later sooner out = grind (arith, nat_tests)

module _ (from at until end : Moment) (later : from ≤ at) (sooner : end ≤ until) where
  silences_later : (stored : List (ℕ × Silence)) → list_all (λ one. is_outside from until one.1.starts_at && is_outside from until one.1.ends_at) stored ≡ true
      → list_all (λ one. is_outside at end one.1.starts_at && is_outside at end one.1.ends_at) stored ≡ true
  silences_later [] out = refl
  silences_later (one ∷ stored) out =
      grind (arith, silences_later stored, outside_later from at until end one.1.starts_at later sooner, outside_later from at until end one.1.ends_at later sooner)

  sources_later : (rules : List InhibitRule) (alerts : Alerts) → no_source_ends from until rules alerts ≡ true → no_source_ends at end rules alerts ≡ true
  sources_later [] alerts still = refl
  sources_later (rule ∷ rules) alerts still =
      all_weaker (λ (one : LabelSet × Alert). is_outside from until one.1.ends_at) (λ one. is_outside at end one.1.ends_at) (λ one. outside_later from at until end one.1.ends_at later sooner) (entries alerts) still

  -- what is still in a stretch is still in a part of it
  pub still_later : (s : State) → IsStill s from until → IsStill s at end
  still_later s still = record { sources = sources_later s.config.rules s.alerts still.sources; silences = silences_later (entries s.silences) still.silences }

pub fire_sooner : (until end : Moment) → end ≤ until → (ms : Members) → all_fire_until until ms ≡ true → all_fire_until end ms ≡ true
fire_sooner until end sooner ms fire =
    all_weaker (λ (m : LabelSet × Alert). nat_le until m.1.ends_at) (λ m. nat_le end m.1.ends_at) (λ m fires. grind (arith, nat_tests)) ms fire

sooner_repeat : (until end : Moment) → end ≤ until → (interval : Span) (entry : Option LogEntry) → no_repeat_before until interval entry ≡ true → no_repeat_before end interval entry ≡ true
sooner_repeat until end sooner interval entry h = grind (arith, nat_tests)

module _ (s : State) (group : RouteLabels) (from : Moment) (firing : LabelSets) where
  pub notified_sooner : (until end : Moment) → end ≤ until → (integration : Integration) → is_notified s group from until firing integration ≡ true → is_notified s group from end firing integration ≡ true
  notified_sooner until end sooner integration notified = grind (arith, sooner_repeat until end sooner)

  -- one integration more
  pub all_notified : (end : Moment) (integrations : List Integration) (n : ℕ) (integration : Integration) → n < length integrations → integration ≡ get_or integrations n integration
      → is_notified s group from end firing integration ≡ true → list_all (is_notified s group from end firing) (drop (n + 1) integrations) ≡ true
      → list_all (is_notified s group from end firing) (drop n integrations) ≡ true
  all_notified end integrations n integration within is here rest =
      at_drop_more (list_all (is_notified s group from end firing)) integrations n integration within
      ∙ (λ i. (ap (is_notified s group from end firing) (sym is) ∙ here) i && rest i)

pub is_settled : (s : State) (group : RouteLabels) (from until : Moment) (ms : Members) → all_fire_until until ms ≡ true → IsStill s from until → is_untimed s.config group.route ≡ true
    → are_notified s group from until (let_through s from group.route ms) ≡ true → IsQuietWith s group from until ms
is_settled s group from until [] fire still untimed notified = tt
is_settled s group from until (m ∷ ms) fire still untimed notified = inl (record { fire = fire; still = still; untimed = untimed; notified = notified })

-- all integrations were notified of all members of a group for which that was found
pub found_all_notified : (s : State) (group : RouteLabels) (from first end : Moment) (ms : Members) → ms ≡ members s group → all_fire_until first ms ≡ true → end ≤ first
    → are_notified s group from end ms ≡ true → IsAllNotified s group from end (members s group)
found_all_notified s group from first end ms all fire within notified =
    subst (IsAllNotified s group from end) all (record { fire = fire_sooner first end within ms fire; notified = notified })

-- a group is quiet that was found so
pub found_quiet : (s : State) (group : RouteLabels) (from until first end : Moment) (ms through : Members) → ms ≡ members s group → through ≡ let_through s from group.route ms
    → is_untimed s.config group.route ≡ true → IsStill s from until → first ≤ until → all_fire_until first ms ≡ true → end ≤ first → are_notified s group from end through ≡ true
    → IsQuiet s group from end
unfolding IsQuiet
found_quiet s group from until first end ms through all is untimed still first_within fire end_within notified =
    let within : end ≤ until = omega (arith, first_within, end_within) in
    let same : from ≤ from = omega arith in
    subst (IsQuietWith s group from end) all
    (is_settled s group from end ms (fire_sooner first end end_within ms fire) (still_later from from until end same within s still) untimed
    (ap (are_notified s group from end) (sym is) ∙ notified))

-- the settings of a route say whether it has time intervals
pub untimed_by : (config : Config) (route : ℕ) (settings : Settings) (active mute : Bool) → settings ≡ settings_of config route
    → active ≡ (length settings.active_time_intervals == 0) → mute ≡ (length settings.mute_time_intervals == 0) → (active && mute) ≡ is_untimed config route
unfolding settings_of
untimed_by config route settings active mute is e f = (λ i. e i && f i) ∙ ap (λ (x : Settings). (length x.active_time_intervals == 0) && (length x.mute_time_intervals == 0)) is

-- what is still in a period is still in its rest
pub still_rest : (s : State) (from at until : Moment) → from ≤ at → IsStill s from until → IsStill s at until
still_rest s from at until later still =
    let all : until ≤ until = omega arith in
    still_later from at until until later all s still

pub no_rules : (config notified : Config) (asked : List InhibitRule) (b : Bool) → notified ≡ config → asked ≡ notified.rules → b ≡ (length asked == 0) → b ≡ true → config.rules ≡ []
no_rules config notified asked b same rules counted none =
    none_left config.rules (ap (λ (rs : List InhibitRule). length rs == 0) (sym (rules ∙ ap (λ (c : Config). c.rules) same)) ∙ sym counted ∙ none)

all_sources : (from until : Moment) (alerts : Alerts) (rules : List InhibitRule) → no_alert_ends from until alerts ≡ true → no_source_ends from until rules alerts ≡ true
all_sources from until alerts rules still = grind arith

-- nothing changes that may mute an alert, if no silence turns and then no alert ends
pub still_by : (s : State) (from until end : Moment) → end ≤ until → no_silence_turns from until s.silences ≡ true → no_alert_ends from end s.alerts ≡ true → IsStill s from end
still_by s from until end sooner silences alerts =
    let same : from ≤ from = omega arith in
    record { sources = all_sources from end s.alerts s.config.rules alerts; silences = silences_later from from until end same sooner (entries s.silences) silences }

outside_now : (from until m : Moment) → until ≡ from + 1 → is_outside from until m ≡ true
outside_now from until m next = grind (arith, nat_tests)

module _ (from until : Moment) (next : until ≡ from + 1) where
  -- nothing changes within a nanosecond
  pub still_now : (s : State) → IsStill s from until
  still_now s = record {
    sources = all_sources from until s.alerts s.config.rules
        (list_all-from_AllPass (λ (one : LabelSet × Alert). is_outside from until one.1.ends_at) (entries s.alerts) (λ k d less. outside_now from until _ next));
    silences = list_all-from_AllPass (λ (one : ℕ × Silence). is_outside from until one.1.starts_at && is_outside from until one.1.ends_at) (entries s.silences)
        (λ k d less.
        let one : ℕ × Silence = get_or (entries s.silences) k d in
        (λ i. outside_now from until one.1.starts_at next i && outside_now from until one.1.ends_at next i));
  }
