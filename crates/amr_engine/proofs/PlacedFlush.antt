-- A flush leaves the alerts placed.
use Rattle.std.proofs.Common.{[], ◌≡◌, ℕ, Bool, true, false, List, ◌∷◌, ◌≤◌, Option, Some, None, ◌+◌, All, Contains, filter, fold, refl, sym, ap, ◌∙◌, subst, arith}
use Rattle.std.specs.Ordering.{eq_by_cmp, is_eq}
use Rattle.std.proofs.lemmas.Cmp.{tied_itself}
use Rattle.std.proofs.lemmas.Bool.Decides.{nat_tests}
use Rattle.std.proofs.lemmas.List.Elements.{All-head, All-tail, All-map}
use Rattle.std.proofs.lemmas.Map.Views.{tells_apart}
use Rattle.amr_labels.specs.Map.{Map, get, entries}
use Rattle.amr_labels.specs.Labels.{LabelSet}
use Rattle.amr_time.specs.Time.{Moment}
use Rattle.amr_config.specs.Stated.Config.{Config}
use Rattle.amr_config.specs.Routing.{group_interval_of}
use Rattle.amr_rules.specs.declared.alert.Alert.{Alert}
use Rattle.amr_rules.specs.Alerts.{is_resolved_at}
use Rattle.amr_rules.specs.declared.dedup.LogEntry.{LogEntry}
use Rattle.amr_engine.specs.declared.state.notification.GroupTimer.{GroupTimer}
use Rattle.amr_engine.specs.declared.state.notification.Notification.{Notification}
use Rattle.amr_config.specs.declared.route_labels.RouteLabels.{RouteLabels}
use Rattle.amr_config.specs.RouteLabels.{on_route, route_labels_cmp, route_labels_cmp_total, route_labels_cmp-IsAntisymmetric}
use Rattle.amr_engine.specs.State.State.{State, log_key_cmp, group_key, members_among, members}
use Rattle.amr_engine.specs.Flush.{Members, firing_of, resolved_of, log_key_of, let_through, notify_receiver, record_notification, set_timer, drop_member, mark_if_empty, drop_resolved, run_pipeline, flush}
use Rattle.amr_engine.specs.Placed.{IsTimed, IsPlaced}
use Rattle.amr_engine.proofs.MovesKeep.{notify_receiver_holds}
use Rattle.amr_engine.proofs.Listed.{none_listed, first_or_rest, listed_map, listed_filter}
use Rattle.amr_engine.proofs.PlacedLists.{each_kept, all_pass, get-inserted, get-removed, get-remove_apart, get-before_remove, get-remove_none, get-each, among_entries}
use Rattle.amr_engine.proofs.QuietStays.{other_timer}
use Rattle.amr_engine.proofs.PlacedPosts.{key_or_apart, timed_as, placed_as}

-- what is resolved stays resolved
still_resolved : (at later : Moment) (alert : Alert) → at ≤ later → is_resolved_at later alert ≡ false → is_resolved_at at alert ≡ false
still_resolved at later alert order fires = grind (arith, nat_tests)

-- fewer alerts are unresolved later
pub placed_later : (at later : Moment) (s : State) → at ≤ later → IsPlaced at s → IsPlaced later s
placed_later at later s order placed = grind (arith, still_resolved at later)

-- ---- a flush

module _ (group : RouteLabels) (change : GroupTimer → GroupTimer) (s : State) where
  -- another group's timer
  set_timer_apart : (other : RouteLabels) → (other ≡ group → ⊥) → IsTimed s other → IsTimed (set_timer group change s) other
  set_timer_apart other apart timed = grind (arith, other_timer other group apart change s)

  set_timer_same : ((timer : GroupTimer) → timer.empty_since ≡ None → (change timer).empty_since ≡ None) → IsTimed s group → IsTimed (set_timer group change s) group
  set_timer_same keeps timed = grind (arith, get-inserted route_labels_cmp_total route_labels_cmp-IsAntisymmetric s.timers group (change timed.timer), keeps timed.timer)

  set_timer_keeps : ((timer : GroupTimer) → timer.empty_since ≡ None → (change timer).empty_since ≡ None) → (other : RouteLabels) → IsTimed s other → IsTimed (set_timer group change s) other
  set_timer_keeps keeps other timed = grind (arith, key_or_apart other group, set_timer_same keeps, set_timer_apart other)

  timer_reset : (at : Moment) → ((timer : GroupTimer) → timer.empty_since ≡ None → (change timer).empty_since ≡ None) → IsPlaced at s → IsPlaced at (set_timer group change s)
  timer_reset at keeps placed = grind (arith, λ (member : RouteLabels). set_timer_keeps keeps (group_key s.config member))

-- the state with some other log and other notifications
record Noted (s t : State) : Type 0 where
  pub log : Map log_key_cmp LogEntry
  pub notes : List Notification
  pub is : t ≡ record s { log = log; notes = notes }

notify_receiver_noted : (at : Moment) (group : RouteLabels) (ms : Members) (s : State) → Noted s (notify_receiver at group ms s)
notify_receiver_noted at group ms s = notify_receiver_holds (Noted s) at group ms
    (λ t integration noted.
    let u : State = record_notification at group (log_key_of t.config group integration) integration.send_resolved ms t in
    record { log = u.log; notes = u.notes; is = ap (λ (x : State). record x { log = u.log; notes = u.notes }) noted.is })
    s (record { log = s.log; notes = s.notes; is = refl })

-- ---- the members that leave

-- the members of a group that a map has, and the map has each of them
module _ (config : Config) (group : RouteLabels) (placements : Map route_labels_cmp Alert) where
  abbrev pub IsHad : LabelSet × Alert → Type 0
  IsHad member = get placements (on_route group.route member.0) ≡ Some member.1

  abbrev is_in_group : RouteLabels × Alert → Bool
  is_in_group placement = eq_by_cmp route_labels_cmp (group_key config placement.0) group

  in_group : (placement : RouteLabels × Alert) → is_in_group placement ≡ true → group_key config placement.0 ≡ group
  in_group placement e = tells_apart route_labels_cmp-IsAntisymmetric (group_key config placement.0) group e

  had : (placement : RouteLabels × Alert) → is_in_group placement ≡ true → get placements placement.0 ≡ Some placement.1 → IsHad (placement.0.labels, placement.1)
  had placement e is =
      let route : placement.0.route ≡ group.route = ap (λ (x : RouteLabels). x.route) (in_group placement e) in
      ap (λ r. get placements (on_route r placement.0.labels)) (sym route) ∙ is

  pub each_had : All IsHad (members_among config placements group)
  each_had = All-map IsHad (λ (placement : RouteLabels × Alert). (placement.0.labels, placement.1)) (filter is_in_group (entries placements))
      (each_kept is_in_group (λ (e : RouteLabels × Alert). get placements e.0 ≡ Some e.1) (λ (e : RouteLabels × Alert). IsHad (e.0.labels, e.1)) had
      (entries placements) (get-each route_labels_cmp_total route_labels_cmp-IsAntisymmetric placements))

  pub among_members : (q : RouteLabels) (copy : Alert) → get placements q ≡ Some copy → group_key config q ≡ group → Contains (members_among config placements group) (q.labels, copy)
  among_members q copy is of =
      listed_map (λ (placement : RouteLabels × Alert). (placement.0.labels, placement.1)) (filter is_in_group (entries placements)) (q, copy)
      (listed_filter is_in_group (entries placements) (q, copy) (ap (λ g. eq_by_cmp route_labels_cmp g group) of ∙ ap is_eq (tied_itself route_labels_cmp_total group))
      (among_entries route_labels_cmp_total route_labels_cmp-IsAntisymmetric placements q copy is))

module _ (group : RouteLabels) where
  -- nothing is added
  dropped_before : (ms : Members) (s : State) (q : RouteLabels) (copy : Alert) → get (fold (drop_member group) s ms).placements q ≡ Some copy → get s.placements q ≡ Some copy
  dropped_before [] s q copy e = e
  dropped_before (m ∷ ms) s q copy e =
      get-before_remove route_labels_cmp_total route_labels_cmp-IsAntisymmetric s.placements (on_route group.route m.0) q copy (dropped_before ms (drop_member group s m) q copy e)

  abbrev IsApart : RouteLabels → LabelSet × Alert → Type 0
  IsApart q m = q ≡ on_route group.route m.0 → ⊥

  -- what isn't dropped stays
  not_dropped : (ms : Members) (s : State) (q : RouteLabels) (copy : Alert) → All (IsApart q) ms → get s.placements q ≡ Some copy
      → get (fold (drop_member group) s ms).placements q ≡ Some copy
  not_dropped [] s q copy differ e = e
  not_dropped (m ∷ ms) s q copy differ e = not_dropped ms (drop_member group s m) q copy (All-tail (IsApart q) m ms differ)
      (grind (arith, All-head (IsApart q) m ms differ, key_or_apart q (on_route group.route m.0), get-remove_apart route_labels_cmp_total route_labels_cmp-IsAntisymmetric s.placements (on_route group.route m.0) q))

  still_none : (ms : Members) (s : State) (q : RouteLabels) → get s.placements q ≡ None → get (fold (drop_member group) s ms).placements q ≡ None
  still_none [] s q e = e
  still_none (m ∷ ms) s q e = still_none ms (drop_member group s m) q (get-remove_none route_labels_cmp_total route_labels_cmp-IsAntisymmetric s.placements (on_route group.route m.0) q e)

  all_dropped : (ms : Members) (s : State) (m : LabelSet × Alert) → Contains ms m → get (fold (drop_member group) s ms).placements (on_route group.route m.0) ≡ None
  all_dropped [] s m h = absurd (none_listed m h)
  all_dropped (x ∷ xs) s m h =
      let gone = get-removed route_labels_cmp_total route_labels_cmp-IsAntisymmetric s.placements (on_route group.route x.0) in
      let kept = still_none xs (drop_member group s x) (on_route group.route m.0) in
      grind (arith, first_or_rest x m xs h, kept, gone, all_dropped xs (drop_member group s x) m)

  -- only members do
  dropped_is : (ms : Members) (s : State) → fold (drop_member group) s ms ≡ record s { placements = (fold (drop_member group) s ms).placements }
  dropped_is [] s = refl
  dropped_is (m ∷ ms) s = dropped_is ms (drop_member group s m)

module _ (at now : Moment) (group : RouteLabels) (s : State) (order : now ≤ at) (placed : IsPlaced at s) where
  abbrev ms : Members
  ms = members_among s.config s.placements group

  abbrev left : Map route_labels_cmp Alert
  left = (fold (drop_member group) s (resolved_of now ms)).placements

  abbrev dropped : State
  dropped = record s { placements = left }

  before : (member : RouteLabels) (copy : Alert) → get left member ≡ Some copy → get s.placements member ≡ Some copy
  before = dropped_before group (resolved_of now ms) s

  -- an alert that isn't resolved is none of the members that leave
  stays : (labels : LabelSet) (alert : Alert) (route : ℕ) → is_resolved_at at alert ≡ false → get s.placements (on_route route labels) ≡ Some alert
      → All (IsApart group (on_route route labels)) (resolved_of now ms)
  stays labels alert route fires is = each_kept (λ member. is_resolved_at now member.1) (IsHad s.config group s.placements)
      (IsApart group (on_route route labels)) (λ m over has same. grind (arith, still_resolved now at alert order fires)) ms (each_had s.config group s.placements)

  dropped_placed : IsPlaced at dropped
  dropped_placed = record {
    copied = λ labels alert is fires route takes.
        let was = placed.copied labels alert is fires route takes in
        not_dropped group (resolved_of now ms) s (on_route route labels) alert (stays labels alert route fires was) was;
    chosen_only = λ member copy e. placed.chosen_only member copy (before member copy e);
    timed = λ member copy e. timed_as s dropped (group_key s.config member) refl (placed.timed member copy (before member copy e));
  }

  -- where all members of the group are resolved, none is left
  none_left : firing_of now ms ≡ [] → (member : RouteLabels) (copy : Alert) → get left member ≡ Some copy → group_key s.config member ≡ group → ⊥
  none_left none member copy e owner =
      let route : group.route ≡ member.route = ap (λ (x : RouteLabels). x.route) (sym owner) in
      let among = among_members s.config group s.placements member copy (before member copy e) owner in
      let over : is_resolved_at now copy ≡ true = all_pass (λ m. is_resolved_at now m.1) (member.labels, copy) ms none among in
      let gone : get left (on_route group.route member.labels) ≡ None =
      all_dropped group (resolved_of now ms) s (member.labels, copy) (listed_filter (λ (m : LabelSet × Alert). is_resolved_at now m.1) ms (member.labels, copy) over among) in
      let no : ◌≡◌ {A = Option Alert} None (Some copy) = sym gone ∙ ap (λ r. get left (on_route r member.labels)) route ∙ e in absurd (cc)

  marked : (firing : Members) → firing_of now ms ≡ firing → IsPlaced at (mark_if_empty now group firing dropped)
  marked (m ∷ rest) is = dropped_placed
  marked [] is = record {
    copied = dropped_placed.copied;
    chosen_only = dropped_placed.chosen_only;
    timed = λ member copy e.
        let key : RouteLabels = group_key s.config member in
        let other = set_timer_apart group (λ timer. record timer { empty_since = Some now }) dropped key in
        grind (arith, key_or_apart key group, none_left is member copy e, dropped_placed.timed member copy e, other);
  }

  resolved_dropped : IsPlaced at (drop_resolved now group ms s)
  unfolding drop_resolved
  resolved_dropped =
      subst (λ (t : State). IsPlaced at (mark_if_empty now group (firing_of now ms) t)) (sym (dropped_is group (resolved_of now ms) s)) (marked (firing_of now ms) refl)

module _ (at now : Moment) (group : RouteLabels) (s : State) (order : now ≤ at) where
  noted_placed : (t : State) → Noted s t → IsPlaced at s → IsPlaced at t
  noted_placed t noted = placed_as at s t (ap (λ (x : State). x.config) noted.is) (ap (λ (x : State). x.alerts) noted.is) (ap (λ (x : State). x.placements) noted.is) (ap (λ (x : State). x.timers) noted.is)

  -- the members are those before the notifications
  noted_members : (t : State) → Noted s t → members_among t.config t.placements group ≡ members_among s.config s.placements group
  noted_members t noted = ap (λ (x : State). members_among x.config x.placements group) noted.is

  pipeline_placed : (found : Members) → found ≡ members_among s.config s.placements group → IsPlaced at s → IsPlaced at (run_pipeline now group found s)
  pipeline_placed [] is placed = placed
  pipeline_placed (m ∷ rest) is placed =
      let t : State = notify_receiver now group (let_through s now group.route (m ∷ rest)) s in
      let noted : Noted s t = notify_receiver_noted now group (let_through s now group.route (m ∷ rest)) s in
      subst (λ (found : Members). IsPlaced at (drop_resolved now group found t)) (noted_members t noted ∙ sym is) (resolved_dropped at now group t order (noted_placed t noted placed))

pub flush_placed : (at now : Moment) (group : RouteLabels) (s : State) → now ≤ at → IsPlaced at s → IsPlaced at (flush now group s)
unfolding flush members
flush_placed at now group s order placed =
    let reset : GroupTimer → GroupTimer = λ timer. record timer { next_flush = now + group_interval_of s.config group.route; flushed = true } in
    pipeline_placed at now group (set_timer group reset s) order (members s group) refl (timer_reset group reset s at (λ timer none. none) placed)
