-- Posts and reloads leave the alerts placed.
use Rattle.std.proofs.Common.{[], ◌≡◌, ℕ, false, List, ◌∷◌, ◌⊎◌, Option, Some, None, All, Contains, fold, refl, sym, ap, ◌∙◌, subst, arith}
use Rattle.std.specs.Ordering.{eq_by_cmp}
use Rattle.std.proofs.lemmas.List.Elements.{All-head, All-tail, All-weaker, All-contains_itself}
use Rattle.amr_labels.specs.Map.{get, insert, entries, empty, get-empty, get-insert}
use Rattle.amr_labels.specs.Labels.{LabelSet, label_set_cmp, label_set_cmp_total, label_set_cmp-IsAntisymmetric}
use Rattle.amr_time.specs.Time.{Moment, Span}
use Rattle.amr_config.specs.Stated.Config.{Config}
use Rattle.amr_config.specs.Routing.{chosen_routes, group_wait_of}
use Rattle.amr_rules.specs.declared.alert.Alert.{Alert}
use Rattle.amr_rules.specs.Alerts.{alert_to_store, is_resolved_at}
use Rattle.amr_engine.specs.declared.state.notification.GroupTimer.{GroupTimer}
use Rattle.amr_config.specs.declared.route_labels.RouteLabels.{RouteLabels}
use Rattle.amr_config.specs.RouteLabels.{on_route, route_labels_cmp, route_labels_cmp_total, route_labels_cmp-IsAntisymmetric}
use Rattle.amr_engine.specs.State.State.{State, group_key, timer_with, insert_into_group, insert_into_groups}
use Rattle.amr_engine.specs.Events.{put, with_config}
use Rattle.amr_engine.specs.Placed.{IsTimed, IsPlaced}
use Rattle.amr_engine.proofs.Listed.{none_listed, first_or_rest}
use Rattle.amr_engine.proofs.PlacedLists.{among_entries, same_or_apart, get-inserted, get-insert_apart, get-each}
use Rattle.amr_engine.proofs.MovesKeep.{fold_holds}

-- two keys are the same, or they differ and compare as different
pub key_or_apart : (q k : RouteLabels) → (q ≡ k) ⊎ ((q ≡ k → ⊥) × (eq_by_cmp route_labels_cmp q k ≡ false))
key_or_apart = same_or_apart route_labels_cmp_total route_labels_cmp-IsAntisymmetric

labels_or_apart : (q k : LabelSet) → (q ≡ k) ⊎ ((q ≡ k → ⊥) × (eq_by_cmp label_set_cmp q k ≡ false))
labels_or_apart = same_or_apart label_set_cmp_total label_set_cmp-IsAntisymmetric

-- what holds of the members of all groups, whatever is stored
pub record AreInGroups (s : State) : Type 0 where
  pub chosen_only : (member : RouteLabels) (copy : Alert) → get s.placements member ≡ Some copy → Contains (chosen_routes s.config member.labels) member.route
  pub timed : (member : RouteLabels) (copy : Alert) → get s.placements member ≡ Some copy → IsTimed s (group_key s.config member)

-- the timers of another state
pub timed_as : (s t : State) (group : RouteLabels) → t.timers ≡ s.timers → IsTimed s group → IsTimed t group
timed_as s t group same timed = record { timer = timed.timer; known = ap (λ m. get m group) same ∙ timed.known; not_empty = timed.not_empty }

-- alerts are placed in every state with the same configuration, alerts, members and timers
pub placed_as : (at : Moment) (s t : State) → t.config ≡ s.config → t.alerts ≡ s.alerts → t.placements ≡ s.placements → t.timers ≡ s.timers → IsPlaced at s → IsPlaced at t
placed_as at s t config alerts placements timers placed = grind arith

timer_opened : (now : Moment) (wait : Span) (alert : Alert) (timer : Option GroupTimer) → (timer_with now wait alert timer).empty_since ≡ None
timer_opened now wait alert timer = grind arith

-- ---- an alert on a route

module _ (labels : LabelSet) (alert : Alert) (s : State) (route : ℕ) where
  abbrev own_timer : GroupTimer
  own_timer = timer_with s.moment (group_wait_of s.config route) alert (get s.timers (group_key s.config (on_route route labels)))

  own_group_timed : IsTimed (insert_into_group labels alert s route) (group_key s.config (on_route route labels))
  own_group_timed = record {
    timer = own_timer;
    known = get-inserted route_labels_cmp_total route_labels_cmp-IsAntisymmetric s.timers (group_key s.config (on_route route labels)) own_timer;
    not_empty = timer_opened s.moment (group_wait_of s.config route) alert (get s.timers (group_key s.config (on_route route labels)));
  }

  still_timed : (group : RouteLabels) → IsTimed s group → IsTimed (insert_into_group labels alert s route) group
  still_timed group before =
      let own : RouteLabels = group_key s.config (on_route route labels) in
      grind (arith, own_group_timed, key_or_apart group own, get-insert route_labels_cmp_total s.timers own own_timer group)

  placed_here : get (insert_into_group labels alert s route).placements (on_route route labels) ≡ Some alert
  placed_here = get-inserted route_labels_cmp_total route_labels_cmp-IsAntisymmetric s.placements (on_route route labels) alert

  -- the members with other keys stay as they are
  pub placed_elsewhere : (q : RouteLabels) → eq_by_cmp route_labels_cmp q (on_route route labels) ≡ false → get (insert_into_group labels alert s route).placements q ≡ get s.placements q
  placed_elsewhere q apart = get-insert_apart route_labels_cmp_total route_labels_cmp-IsAntisymmetric s.placements (on_route route labels) alert q apart

  inserted_one_in_groups : Contains (chosen_routes s.config labels) route → AreInGroups s → AreInGroups (insert_into_group labels alert s route)
  inserted_one_in_groups takes before = record {
    chosen_only = λ member copy e. grind (arith, key_or_apart member (on_route route labels), placed_elsewhere member, before.chosen_only member copy);
    timed = λ member copy e. grind (arith, key_or_apart member (on_route route labels), placed_elsewhere member, before.timed member copy, own_group_timed, still_timed (group_key s.config member));
  }

  -- the copy on a route stays, since only equal ones are inserted
  still_placed : (n : ℕ) → get s.placements (on_route n labels) ≡ Some alert → get (insert_into_group labels alert s route).placements (on_route n labels) ≡ Some alert
  still_placed n e = grind (arith, get-insert route_labels_cmp_total s.placements (on_route route labels) alert (on_route n labels))

  -- alerts with other labels stay as they are
  others_stay : (q : RouteLabels) → (q.labels ≡ labels → ⊥) → get (insert_into_group labels alert s route).placements q ≡ get s.placements q
  others_stay q differ = grind (arith, key_or_apart q (on_route route labels), placed_elsewhere q)

-- ---- an alert on all its routes

module _ (labels : LabelSet) (alert : Alert) where
  on_each_in_groups : (rs : List ℕ) (s : State) → All (Contains (chosen_routes s.config labels)) rs → AreInGroups s → AreInGroups (fold (insert_into_group labels alert) s rs)
  on_each_in_groups [] s take before = before
  on_each_in_groups (r ∷ rs) s take before =
      on_each_in_groups rs (insert_into_group labels alert s r) (All-tail (Contains (chosen_routes s.config labels)) r rs take)
      (inserted_one_in_groups labels alert s r (All-head (Contains (chosen_routes s.config labels)) r rs take) before)

  on_each_still : (rs : List ℕ) (s : State) (n : ℕ) → get s.placements (on_route n labels) ≡ Some alert → get (fold (insert_into_group labels alert) s rs).placements (on_route n labels) ≡ Some alert
  on_each_still rs s n e = fold_holds (λ x. get x.placements (on_route n labels) ≡ Some alert) (insert_into_group labels alert) (λ x r. still_placed labels alert x r n) rs s e

  on_each_placed : (rs : List ℕ) (s : State) (n : ℕ) → Contains rs n → get (fold (insert_into_group labels alert) s rs).placements (on_route n labels) ≡ Some alert
  on_each_placed [] s n has = absurd (none_listed n has)
  on_each_placed (r ∷ rs) s n has =
      grind (arith, first_or_rest r n rs has, placed_here labels alert s r, on_each_still rs (insert_into_group labels alert s r) n, on_each_placed rs (insert_into_group labels alert s r) n)

  on_each_others : (rs : List ℕ) (s : State) (q : RouteLabels) → (q.labels ≡ labels → ⊥) → get (fold (insert_into_group labels alert) s rs).placements q ≡ get s.placements q
  on_each_others rs s q differ = fold_holds (λ x. get x.placements q ≡ get s.placements q) (insert_into_group labels alert) (λ x r e. others_stay labels alert x r q differ ∙ e) rs s refl

  -- only members and timers are changed
  on_each_is : (rs : List ℕ) (s : State) → fold (insert_into_group labels alert) s rs
      ≡ record s { placements = (fold (insert_into_group labels alert) s rs).placements; timers = (fold (insert_into_group labels alert) s rs).timers }
  on_each_is [] s = refl
  on_each_is (r ∷ rs) s = on_each_is rs (insert_into_group labels alert s r)

module _ (s : State) (labels : LabelSet) (alert : Alert) where
  inserted_in_groups : AreInGroups s → AreInGroups (insert_into_groups s (labels, alert))
  unfolding insert_into_groups
  inserted_in_groups = on_each_in_groups labels alert (chosen_routes s.config labels) s (All-contains_itself (chosen_routes s.config labels))

  inserted_placed : (n : ℕ) → Contains (chosen_routes s.config labels) n → get (insert_into_groups s (labels, alert)).placements (on_route n labels) ≡ Some alert
  unfolding insert_into_groups
  inserted_placed = on_each_placed labels alert (chosen_routes s.config labels) s

  pub inserted_others : (q : RouteLabels) → (q.labels ≡ labels → ⊥) → get (insert_into_groups s (labels, alert)).placements q ≡ get s.placements q
  unfolding insert_into_groups
  inserted_others = on_each_others labels alert (chosen_routes s.config labels) s

  pub inserted_is : insert_into_groups s (labels, alert) ≡ record s { placements = (insert_into_groups s (labels, alert)).placements; timers = (insert_into_groups s (labels, alert)).timers }
  unfolding insert_into_groups
  inserted_is = on_each_is labels alert (chosen_routes s.config labels) s

-- ---- a post

module _ (at : Moment) (s : State) (labels : LabelSet) (stored : Alert) where
  abbrev with_stored : State
  with_stored = record s { alerts = insert s.alerts labels stored }

  abbrev after : State
  after = insert_into_groups with_stored (labels, stored)

  -- the alert itself is on its routes, and the others are where they were
  store_copied : IsPlaced at s → (asked : LabelSet) (found : Alert) → get (insert s.alerts labels stored) asked ≡ Some found → is_resolved_at at found ≡ false
      → (route : ℕ) → Contains (chosen_routes s.config asked) route → get after.placements (on_route route asked) ≡ Some found
  store_copied placed asked found e fires route takes =
      grind (
        arith,
        labels_or_apart asked labels,
        inserted_placed with_stored labels stored route,
        get-inserted label_set_cmp_total label_set_cmp-IsAntisymmetric s.alerts labels stored,
        inserted_others with_stored labels stored (on_route route asked),
        get-insert_apart label_set_cmp_total label_set_cmp-IsAntisymmetric s.alerts labels stored asked,
        placed.copied asked found,
      )

  stored_is_placed : IsPlaced at s → IsPlaced at after
  stored_is_placed placed = record {
    copied = λ asked found e fires route takes.
        store_copied placed asked found (ap (λ m. get m asked) (sym (ap (λ (x : State). x.alerts) (inserted_is with_stored labels stored))) ∙ e) fires route
        (subst (λ (c : Config). Contains (chosen_routes c asked) route) (ap (λ (x : State). x.config) (inserted_is with_stored labels stored)) takes);
    chosen_only = then.chosen_only;
    timed = then.timed;
  }
    where
      then : AreInGroups after
      then = inserted_in_groups with_stored labels stored (record { chosen_only = placed.chosen_only; timed = λ member copy e. timed_as s with_stored (group_key s.config member) refl (placed.timed member copy e) })

pub put_placed : (at : Moment) (s : State) (alert : LabelSet × Alert) → IsPlaced at s → IsPlaced at (put s alert)
unfolding put
put_placed at s alert = stored_is_placed at s alert.0 (alert_to_store s.moment (get s.alerts alert.0) alert.1)

pub put_moment : (s : State) (alert : LabelSet × Alert) → (put s alert).moment ≡ s.moment
unfolding put
put_moment s alert =
    let stored : Alert = alert_to_store s.moment (get s.alerts alert.0) alert.1 in
    ap (λ (x : State). x.moment) (inserted_is (record s { alerts = insert s.alerts alert.0 stored }) alert.0 stored)

pub post_placed : (at : Moment) (alerts : List (LabelSet × Alert)) (s : State) → IsPlaced at s → IsPlaced at (fold put s alerts)
post_placed at [] s placed = placed
post_placed at (alert ∷ alerts) s placed = post_placed at alerts (put s alert) (put_placed at s alert placed)

pub post_moment : (alerts : List (LabelSet × Alert)) (s : State) → (fold put s alerts).moment ≡ s.moment
post_moment [] s = refl
post_moment (alert ∷ alerts) s = post_moment alerts (put s alert) ∙ put_moment s alert

-- ---- a reload

fold_in_groups : (es : List (LabelSet × Alert)) (s : State) → AreInGroups s → AreInGroups (fold insert_into_groups s es)
fold_in_groups [] s before = before
fold_in_groups (e ∷ es) s before = fold_in_groups es (insert_into_groups s e) (inserted_in_groups s e.0 e.1 before)

fold_is : (es : List (LabelSet × Alert)) (s : State) → fold insert_into_groups s es ≡ record s { placements = (fold insert_into_groups s es).placements; timers = (fold insert_into_groups s es).timers }
fold_is [] s = refl
fold_is (e ∷ es) s =
    let end : State = fold insert_into_groups (insert_into_groups s e) es in
    fold_is es (insert_into_groups s e) ∙ ap (λ (x : State). record x { placements = end.placements; timers = end.timers }) (inserted_is s e.0 e.1)

module _ (labels : LabelSet) (alert : Alert) where
  -- an entry with these labels has this alert
  abbrev Agrees : LabelSet × Alert → Type 0
  Agrees e = e.0 ≡ labels → e.1 ≡ alert

  placed_again : (s : State) (e : LabelSet × Alert) (n : ℕ) → Agrees e → get s.placements (on_route n labels) ≡ Some alert → get (insert_into_groups s e).placements (on_route n labels) ≡ Some alert
  unfolding insert_into_groups
  placed_again s e n agrees is = grind (arith, labels_or_apart labels e.0, on_each_still labels alert (chosen_routes s.config labels) s n, on_each_others e.0 e.1 (chosen_routes s.config e.0) s (on_route n labels))

  fold_again : (es : List (LabelSet × Alert)) (s : State) (n : ℕ) → All Agrees es → get s.placements (on_route n labels) ≡ Some alert → get (fold insert_into_groups s es).placements (on_route n labels) ≡ Some alert
  fold_again [] s n agree is = is
  fold_again (e ∷ es) s n agree is = fold_again es (insert_into_groups s e) n (All-tail Agrees e es agree) (placed_again s e n (All-head Agrees e es agree) is)

  fold_placed : (es : List (LabelSet × Alert)) (s : State) (n : ℕ) → All Agrees es → Contains es (labels, alert) → Contains (chosen_routes s.config labels) n → get (fold insert_into_groups s es).placements (on_route n labels) ≡ Some alert
  fold_placed [] s n agree among takes = absurd (none_listed (labels, alert) among)
  fold_placed (e ∷ es) s n agree among takes =
      let here = first_or_rest e (labels, alert) es among in
      let rest = All-tail Agrees e es agree in
      let config = ap (λ (x : State). x.config) (inserted_is s e.0 e.1) in
      grind (arith, here, config, inserted_placed s labels alert n takes, fold_again es (insert_into_groups s e) n rest, fold_placed es (insert_into_groups s e) n rest)

module _ (at : Moment) (s : State) (config : Config) where
  abbrev emptied : State
  emptied = record s { config = config; placements = empty; timers = empty }

  none_in_groups : AreInGroups emptied
  none_in_groups = grind (arith, λ (member : RouteLabels). get-empty {X = Alert} route_labels_cmp member)

  entries_agree : (labels : LabelSet) (alert : Alert) → get s.alerts labels ≡ Some alert → All (Agrees labels alert) (entries s.alerts)
  entries_agree labels alert is = All-weaker (λ (e : LabelSet × Alert). get s.alerts e.0 ≡ Some e.1) (Agrees labels alert)
      (λ e found same. let value : ◌≡◌ {A = Option Alert} (Some e.1) (Some alert) = sym found ∙ ap (get s.alerts) same ∙ is in let values : e.1 ≡ alert = cc in values)
      (entries s.alerts) (get-each label_set_cmp_total label_set_cmp-IsAntisymmetric s.alerts)

  -- a reload places the stored alerts anew, those that are resolved too
  pub reload_placed : IsPlaced at (with_config s config)
  unfolding with_config
  reload_placed = record {
    copied = λ labels alert is fires n takes.
        let stored : get s.alerts labels ≡ Some alert = ap (λ m. get m labels) (sym (ap (λ (x : State). x.alerts) (fold_is (entries s.alerts) emptied))) ∙ is in
        fold_placed labels alert (entries s.alerts) emptied n (entries_agree labels alert stored)
        (among_entries label_set_cmp_total label_set_cmp-IsAntisymmetric s.alerts labels alert stored)
        (subst (λ (c : Config). Contains (chosen_routes c labels) n) (ap (λ (x : State). x.config) (fold_is (entries s.alerts) emptied)) takes);
    chosen_only = then.chosen_only;
    timed = then.timed;
  }
    where
      then : AreInGroups (fold insert_into_groups emptied (entries s.alerts))
      then = fold_in_groups (entries s.alerts) emptied none_in_groups

  pub reload_moment : (with_config s config).moment ≡ s.moment
  unfolding with_config
  reload_moment = ap (λ (x : State). x.moment) (fold_is (entries s.alerts) emptied)
