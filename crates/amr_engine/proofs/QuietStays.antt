-- What leaves a group quiet: the clock, group timers, notifications, and the flush of another group.
use Rattle.std.proofs.Common.{[], ◌≡◌, Bool, true, false, not, List, ◌∷◌, Some, map, All, filter, fold, Ordering, refl, sym, ap, ◌∙◌, subst, arith}
use Rattle.std.specs.Ordering.{eq_by_cmp}
use Rattle.std.specs.FinMap.{IsAntisymmetric}
use Rattle.std.specs.FinMap.Entries.{where_key}
use Rattle.std.proofs.lemmas.List.Elements.{All-head, All-tail, All-map, All-filter}
use Rattle.std.proofs.lemmas.Map.Views.{tells_apart}
use Rattle.amr_labels.specs.Map.{get, insert, remove, entries, get-insert, entries-retain_keys}
use Rattle.amr_labels.specs.Labels.{LabelSet}
use Rattle.amr_time.specs.Time.{Moment}
use Rattle.amr_config.specs.declared.stated.receiver.Integration.{Integration}
use Rattle.amr_config.specs.Stated.Config.{Config}
use Rattle.amr_rules.specs.declared.alert.Alert.{Alert}
use Rattle.amr_rules.specs.declared.dedup.LogEntry.{LogEntry}
use Rattle.amr_engine.specs.declared.state.notification.LogKey.{LogKey}
use Rattle.amr_engine.specs.declared.state.notification.GroupTimer.{GroupTimer}
use Rattle.amr_engine.specs.declared.state.notification.Notification.{Notification}
use Rattle.amr_rules.specs.Alerts.{is_resolved_at}
use Rattle.amr_config.specs.declared.route_labels.RouteLabels.{RouteLabels}
use Rattle.amr_config.specs.RouteLabels.{on_route, route_labels_cmp, route_labels_cmp_total, route_labels_cmp-IsAntisymmetric}
use Rattle.amr_engine.specs.State.State.{State, log_key_cmp_total, log_key_cmp-IsAntisymmetric, group_key, members}
use Rattle.amr_engine.specs.Flush.{Members, firing_of, resolved_of, log_key_of, notify_receiver, set_timer, drop_member, mark_if_empty, drop_resolved, run_pipeline, flush, let_through}
use Rattle.amr_engine.proofs.MovesKeep.{notify_receiver_holds}
use Rattle.amr_engine.proofs.PlacedLists.{each_kept}
use Rattle.amr_engine.proofs.QuietLaws.{still_alike, through_alike, quiet_alike}
use Rattle.amr_engine.specs.Quiet.{with_timer_reset, IsQuietWith, IsQuiet, LeavesOthers}

-- ---- states that are the same for other groups

module _ (flushed : RouteLabels) where
  pub leaves_all : (s : State) → LeavesOthers flushed s s
  leaves_all s = record { config = refl; alerts = refl; silences = refl; members = λ group other. refl; log = λ key other. refl }

  pub leaves_then : (s t u : State) → LeavesOthers flushed s t → LeavesOthers flushed t u → LeavesOthers flushed s u
  leaves_then s t u a b = record {
    config = b.config ∙ a.config;
    alerts = b.alerts ∙ a.alerts;
    silences = b.silences ∙ a.silences;
    members = λ group other. b.members group other ∙ a.members group other;
    log = λ key other. b.log key (λ integration e. other integration (e ∙ ap (λ (c : Config). log_key_of c flushed integration) a.config)) ∙ a.log key other;
  }

-- another group that shares no log entry and is quiet in the one state is quiet in the other
pub quiet_left : (flushed : RouteLabels) (s t : State) → LeavesOthers flushed s t → (group : RouteLabels) → (group ≡ flushed → ⊥)
    → ((integration its : Integration) → log_key_of s.config group integration ≡ log_key_of s.config flushed its → ⊥) → (from until : Moment) → IsQuiet s group from until → IsQuiet t group from until
unfolding IsQuiet
quiet_left flushed s t same group other keys from until quiet =
    subst (IsQuietWith t group from until) (sym (same.members group other))
    (quiet_alike s t group same.config (λ integration. same.log (log_key_of s.config group integration) (keys integration)) from until
    (still_alike s t same.config same.alerts same.silences from until) (through_alike s t same.config same.alerts same.silences from group.route) (members s group) quiet)

-- ---- the flush of another group

-- different keys don't compare as equal
pub apart : {K : Type 0} {R : K → K → Ordering} → IsAntisymmetric R → (a b : K) → (a ≡ b → ⊥) → eq_by_cmp R a b ≡ false
apart exact a b differ = grind (arith, tells_apart exact a b)

-- the timer of another group stays as it is
pub other_timer : (group other : RouteLabels) → (group ≡ other → ⊥) → (change : GroupTimer → GroupTimer) (s : State) → get (set_timer other change s).timers group ≡ get s.timers group
other_timer group other differ change s = grind (arith, get-insert route_labels_cmp_total s.timers other, tells_apart route_labels_cmp-IsAntisymmetric group other)

-- removing a key leaves the entries that a test keeps, if it doesn't keep that key's
kept_without : {K X : Type 0} (R : K → K → Ordering) (p : K × X → Bool) (test : K → Bool) → ((e : K × X) → p e ≡ true → test e.0 ≡ true) → (es : List (K × X))
    → filter p (where_key R test es) ≡ filter p es
kept_without R p test others [] = refl
kept_without R p test others (e ∷ es) = grind (arith, kept_without R p test others es, others e)

-- the member belongs to the group
abbrev BelongsTo : Config → RouteLabels → LabelSet × Alert → Type 0
BelongsTo config group member = group_key config (on_route group.route member.0) ≡ group

abbrev AllBelong : Config → RouteLabels → Members → Type 0
AllBelong config group = All (BelongsTo config group)

belongs : (config : Config) (group : RouteLabels) (placement : RouteLabels × Alert) → group_key config placement.0 ≡ group → BelongsTo config group (placement.0.labels, placement.1)
belongs config group placement e =
    let route : placement.0.route ≡ group.route = ap (λ (x : RouteLabels). x.route) e in
    ap (λ r. group_key config (on_route r placement.0.labels)) (sym route) ∙ e

members_belong : (s : State) (group : RouteLabels) → AllBelong s.config group (members s group)
unfolding members
members_belong s group =
    let p : RouteLabels × Alert → Bool = λ placement. eq_by_cmp route_labels_cmp (group_key s.config placement.0) group in
    All-map (BelongsTo s.config group) (λ (placement : RouteLabels × Alert). (placement.0.labels, placement.1)) (filter p (entries s.placements))
    (each_kept p (λ placement. Unit {0}) (λ (placement : RouteLabels × Alert). BelongsTo s.config group (placement.0.labels, placement.1))
    (λ placement in_group _. belongs s.config group placement (tells_apart route_labels_cmp-IsAntisymmetric (group_key s.config placement.0) group in_group)) (entries s.placements) (λ _ _ _. tt))

module _ (flushed : RouteLabels) where
  timer_leaves : (change : GroupTimer → GroupTimer) (s : State) → LeavesOthers flushed s (set_timer flushed change s)
  unfolding members
  timer_leaves change s = record { config = refl; alerts = refl; silences = refl; members = λ group other. refl; log = λ key other. refl }

  log_leaves : (s : State) (key : LogKey) (integration : Integration) → key ≡ log_key_of s.config flushed integration → (entry : LogEntry) (notes : List Notification)
      → LeavesOthers flushed s (record s { log = insert s.log key entry; notes = notes })
  unfolding members
  log_leaves s key integration of entry notes = record {
    config = refl;
    alerts = refl;
    silences = refl;
    members = λ group other. refl;
    log = λ asked other. grind (arith, get-insert log_key_cmp_total s.log key entry asked, apart log_key_cmp-IsAntisymmetric asked key (λ e. other integration (e ∙ of)));
  }

  notify_receiver_leaves : (at : Moment) (ms : Members) (s : State) → LeavesOthers flushed s (notify_receiver at flushed ms s)
  notify_receiver_leaves at ms s = notify_receiver_holds (LeavesOthers flushed s) at flushed ms
      (λ t integration left. leaves_then flushed s t _ left (log_leaves t (log_key_of t.config flushed integration) integration refl _ _)) s (leaves_all flushed s)

  -- a member of another group isn't one of the flushed group
  stays_member : (config : Config) (group : RouteLabels) → (group ≡ flushed → ⊥) → (gone : RouteLabels) → group_key config gone ≡ flushed → (placement : RouteLabels × Alert)
      → eq_by_cmp route_labels_cmp (group_key config placement.0) group ≡ true → not (eq_by_cmp route_labels_cmp gone placement.0) ≡ true
  stays_member config group other gone of placement in_group =
      grind (arith, tells_apart route_labels_cmp-IsAntisymmetric gone placement.0, tells_apart route_labels_cmp-IsAntisymmetric (group_key config placement.0) group)

  drop_member_leaves : (s : State) (member : LabelSet × Alert) → BelongsTo s.config flushed member → LeavesOthers flushed s (drop_member flushed s member)
  unfolding members remove
  drop_member_leaves s member of = record {
    config = refl;
    alerts = refl;
    silences = refl;
    members = λ group other. ap (map (λ placement. (placement.0.labels, placement.1)))
        (ap (filter (λ placement. eq_by_cmp route_labels_cmp (group_key s.config placement.0) group)) (entries-retain_keys s.placements (λ route_labels. not (eq_by_cmp route_labels_cmp (on_route flushed.route member.0) route_labels)))
        ∙ kept_without route_labels_cmp (λ placement. eq_by_cmp route_labels_cmp (group_key s.config placement.0) group) (λ route_labels. not (eq_by_cmp route_labels_cmp (on_route flushed.route member.0) route_labels))
        (stays_member s.config group other (on_route flushed.route member.0) of) (entries s.placements));
    log = λ key other. refl;
  }

  drop_all_leaves : (s : State) (ms : Members) → AllBelong s.config flushed ms → LeavesOthers flushed s (fold (drop_member flushed) s ms)
  drop_all_leaves s [] of = leaves_all flushed s
  drop_all_leaves s (m ∷ ms) of =
      leaves_then flushed s (drop_member flushed s m) (fold (drop_member flushed) (drop_member flushed s m) ms) (drop_member_leaves s m (All-head (BelongsTo s.config flushed) m ms of))
      (drop_all_leaves (drop_member flushed s m) ms (All-tail (BelongsTo s.config flushed) m ms of))

  mark_leaves : (at : Moment) (ms : Members) (s : State) → LeavesOthers flushed s (mark_if_empty at flushed ms s)
  mark_leaves at [] s = timer_leaves (λ timer. record timer { empty_since = Some at }) s
  mark_leaves at (m ∷ ms) s = leaves_all flushed s

  drop_leaves : (at : Moment) (ms : Members) (s : State) → AllBelong s.config flushed ms → LeavesOthers flushed s (drop_resolved at flushed ms s)
  unfolding drop_resolved
  drop_leaves at ms s of =
      leaves_then flushed s (fold (drop_member flushed) s (resolved_of at ms)) (mark_if_empty at flushed (firing_of at ms) (fold (drop_member flushed) s (resolved_of at ms)))
      (drop_all_leaves s (resolved_of at ms) (All-filter (λ (member : LabelSet × Alert). is_resolved_at at member.1) (BelongsTo s.config flushed) ms of))
      (mark_leaves at (firing_of at ms) (fold (drop_member flushed) s (resolved_of at ms)))

  pipeline_leaves : (at : Moment) (ms : Members) (s : State) → AllBelong s.config flushed ms → LeavesOthers flushed s (run_pipeline at flushed ms s)
  pipeline_leaves at [] s of = leaves_all flushed s
  pipeline_leaves at (m ∷ ms) s of =
      let through : Members = let_through s at flushed.route (m ∷ ms) in
      let notified : LeavesOthers flushed s (notify_receiver at flushed through s) = notify_receiver_leaves at through s in
      leaves_then flushed s (notify_receiver at flushed through s) (drop_resolved at flushed (m ∷ ms) (notify_receiver at flushed through s)) notified
      (drop_leaves at (m ∷ ms) (notify_receiver at flushed through s) (subst (λ (c : Config). AllBelong c flushed (m ∷ ms)) (sym notified.config) of))

  -- the flush of a group leaves alone what flushes of other groups depend on
  pub flush_leaves : (at : Moment) (s : State) → LeavesOthers flushed s (flush at flushed s)
  unfolding flush
  flush_leaves at s =
      leaves_then flushed s (with_timer_reset at flushed s) (run_pipeline at flushed (members s flushed) (with_timer_reset at flushed s))
      (timer_leaves _ s) (pipeline_leaves at (members s flushed) (with_timer_reset at flushed s) (members_belong s flushed))
