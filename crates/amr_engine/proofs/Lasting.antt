-- More moves are due than the limit if one group alone is flushed more often.
use Rattle.std.proofs.Common.{[], ◌≡◌, ℕ, zero, suc, true, false, List, ◌∷◌, ◌++◌, Option, Some, None, length, ◌≤◌, ◌<◌, ◌+◌, ◌-◌, ◌*◌, ◌==◌, map, option_map, ◌⊎◌, refl, sym, ap, ◌∙◌, subst, inl, inr, arith}
use Rattle.std.specs.List.{Contains, fold, filter_map}
use Rattle.std.specs.Option.{option_map_or}
use Rattle.amr_labels.specs.Map.{Map, get, insert, entries, get-remove}
use Rattle.amr_labels.specs.Labels.{LabelSet, label_set_cmp_total, label_set_cmp-IsAntisymmetric}
use Rattle.amr_time.specs.Time.{Moment, second, next_multiple_of}
use Rattle.amr_config.specs.Stated.Config.{Config}
use Rattle.amr_config.specs.Routing.{group_interval_of}
use Rattle.amr_rules.specs.declared.alert.Alert.{Alert}
use Rattle.amr_rules.specs.Muting.{Alerts}
use Rattle.amr_engine.specs.declared.state.notification.GroupTimer.{GroupTimer}
use Rattle.amr_config.specs.declared.route_labels.RouteLabels.{RouteLabels}
use Rattle.amr_engine.specs.declared.state.due.Kind.TheVariants.{GroupRemoval}
use Rattle.amr_config.specs.RouteLabels.{route_labels_cmp, route_labels_cmp_total, route_labels_cmp-IsAntisymmetric}
use Rattle.amr_engine.specs.State.State.{State, members, members_among}
use Rattle.amr_engine.specs.State.Dues.{Due, alert_removal_of, group_removal_of, flush_of, least_due, due_by, dues_of, dues, next_due}
use Rattle.amr_engine.specs.Flush.{Members, let_through, notify_receiver, drop_member, mark_if_empty, drop_resolved, run_pipeline, flush}
use Rattle.amr_engine.specs.Quiet.{all_fire_until, with_timer_reset}
use Rattle.amr_engine.specs.Runs.{after_step}
use Rattle.amr_engine.specs.Moves.{move, advance}
use Rattle.amr_engine.specs.Said.{IsIn}
use Rattle.amr_engine.specs.Lasting.{Lasts, IsFlushedBeyond}
use Rattle.amr_engine.proofs.MovesLaws.{least_due-IsLeast, Advances-ends}
use Rattle.amr_engine.proofs.MovesNoted.{next_is_first}
use Rattle.amr_engine.proofs.QuietLaws.{firing_all, resolved_none}
use Rattle.amr_engine.proofs.QuietStays.{apart, other_timer, flush_leaves}
use Rattle.amr_engine.proofs.Listed.{none_listed, first_or_rest, listed_first, listed_later}
use Rattle.amr_engine.proofs.PlacedLists.{among_entries, get-among, get-inserted, same_or_apart}
use Rattle.amr_engine.proofs.TickLaws.{Judged, move_keeps}
use Rattle.amr_engine.proofs.MovesKeep.{notify_receiver_holds, flush_holds}
use Rattle.std.proofs.lemmas.Bool.Decides.{nat_tests}
use Rattle.std.proofs.lemmas.Map.Views.{tells_apart}

-- ---- the entries of a map

abbrev Timers : Type 0
Timers = Map route_labels_cmp GroupTimer

pub timer_among : (timers : Timers) (group : RouteLabels) (timer : GroupTimer) → get timers group ≡ Some timer → Contains (entries timers) (group, timer)
timer_among timers group timer e = among_entries route_labels_cmp_total route_labels_cmp-IsAntisymmetric timers group timer e

pub timer_got : (timers : Timers) (group : RouteLabels) (timer : GroupTimer) → Contains (entries timers) (group, timer) → get timers group ≡ Some timer
timer_got timers group timer among = get-among route_labels_cmp_total route_labels_cmp-IsAntisymmetric timers group timer among

-- ---- where a due comes from

pub in_right : (d : Due) (xs ys : List Due) → IsIn d ys → IsIn d (xs ++ ys)
in_right d [] ys h = h
in_right d (x ∷ xs) ys h = inr (in_right d xs ys h)

pub in_either : (d : Due) (xs ys : List Due) → IsIn d (xs ++ ys) → IsIn d xs ⊎ IsIn d ys
in_either d [] ys h = inr h
in_either d (x ∷ xs) ys h = grind (arith, in_either d xs ys)

pub in_map : {A : Type 0} (f : A → Due) (e : A) (es : List A) → Contains es e → IsIn (f e) (map f es)
in_map f e [] h = absurd (none_listed e h)
in_map f e (x ∷ es) h = elim (first_or_rest x e es h) [ inl same ↦ inl (ap f (sym same)) | inr rest ↦ inr (in_map f e es rest) ]

pub from_map : {A : Type 0} (f : A → Due) (d : Due) (es : List A) → IsIn d (map f es) → (e : A) × Contains es e × (d ≡ f e)
from_map f d [] h = absurd h
from_map f d (x ∷ es) (inl is) = (x, listed_first x es, is)
from_map f d (x ∷ es) (inr h) = let r = from_map f d es h in (r.0, listed_later x r.0 es r.1, r.2)

-- what holds if any entry makes the due, holds if the due is among what they make
from_filter_map : {A : Type 0} (f : A → Option Due) (P : Type 0) (d : Due) (es : List A) → ((e : A) → Contains es e → f e ≡ Some d → P) → IsIn d (filter_map f es) → P
from_filter_map f P d [] holds h = absurd h
from_filter_map f P d (x ∷ es) holds h =
    grind (arith, holds x (listed_first x es), from_filter_map f P d es (λ e has. holds e (listed_later x e es has)))

flush_is_due : (s : State) (group : RouteLabels) (timer : GroupTimer) → get s.timers group ≡ Some timer → IsIn (flush_of (group, timer)) (dues s)
unfolding dues
flush_is_due s group timer timed =
    in_right (flush_of (group, timer)) (map alert_removal_of (entries s.alerts) ++ filter_map group_removal_of (entries s.timers)) (map flush_of (entries s.timers))
    (in_map flush_of (group, timer) (entries s.timers) (timer_among s.timers group timer timed))

-- the removal of a group at a moment, and of one that is empty since a moment
abbrev pub removal_at : RouteLabels → Moment → Due
removal_at group moment = record { moment = moment; kind = GroupRemoval; route = group.route; labels = group.labels }

abbrev pub removal_of : RouteLabels → Moment → Due
removal_of group since = removal_at group (next_multiple_of since (30 * second))

-- what holds of the removal of each alert, of the removal of each empty group and of the flush of
-- each group holds of all that is due
module _ (alerts : Alerts) (timers : Timers) (P : Due → Type 0) (removed : (labels : LabelSet) (alert : Alert) → get alerts labels ≡ Some alert → P (alert_removal_of (labels, alert)))
    (emptied : (group : RouteLabels) (timer : GroupTimer) (since : Moment) → get timers group ≡ Some timer → timer.empty_since ≡ Some since → P (removal_of group since))
    (flushed : (group : RouteLabels) (timer : GroupTimer) → get timers group ≡ Some timer → P (flush_of (group, timer))) (d : Due) where
  pub due_holds : IsIn d (dues_of alerts timers) → P d
  due_holds among = elim (in_either d (map alert_removal_of (entries alerts) ++ filter_map group_removal_of (entries timers)) (map flush_of (entries timers)) among) [
    | inl front ↦ elim (in_either d (map alert_removal_of (entries alerts)) (filter_map group_removal_of (entries timers)) front) [
      | inl alert ↦
          let e = from_map alert_removal_of d (entries alerts) alert in
          subst P (sym e.2) (removed e.0.0 e.0.1 (get-among label_set_cmp_total label_set_cmp-IsAntisymmetric alerts e.0.0 e.0.1 e.1))
      | inr empty ↦
          from_filter_map group_removal_of (P d) d (entries timers) (λ e has is. grind (arith, emptied e.0 e.1, timer_got timers e.0 e.1 has)) empty
    ]
    | inr flushes ↦
        let e = from_map flush_of d (entries timers) flushes in
        subst P (sym e.2) (flushed e.0.0 e.0.1 (timer_got timers e.0.0 e.0.1 e.1))
  ]

by_moment : (at : Moment) (o : Option Due) (d : Due) → due_by at o ≡ Some d → d.moment ≤ at
by_moment at o d e = grind (arith, nat_tests)

pub next_is_due : (at : Moment) (s : State) (d : Due) → next_due at s ≡ Some d → IsIn d (dues s) × (d.moment ≤ at)
unfolding next_due
next_is_due at s d e = ((least_due-IsLeast (dues s) d (next_is_first at s d (sym e))).among, by_moment at (least_due (dues s)) d e)

-- ---- what notifications leave as it is

abbrev Parts : Type 0
Parts = Config × (Map route_labels_cmp Alert × Timers)

abbrev parts : State → Parts
parts s = (s.config, (s.placements, s.timers))

-- ---- a group whose members all fire until after the moment

module _ (at : Moment) (group : RouteLabels) where
  members_by : (s t : State) → t.config ≡ s.config → t.placements ≡ s.placements → members t group ≡ members s group
  unfolding members
  members_by s t config placements = λ i. members_among (config i) (placements i) group

  -- the flush of another group leaves it its timer
  module _ (other : RouteLabels) (differ : group ≡ other → ⊥) where
    flush_other : (m : Moment) (s : State) → get (flush m other s).timers group ≡ get s.timers group
    flush_other m s = flush_holds (λ x. get x.timers group ≡ get s.timers group) other (λ change x e. other_timer group other differ change x ∙ e) (λ _ _ e. e) (λ _ _ _ _ e. e) m s refl

    lasts_by_other : (m : Moment) (s : State) (timer : GroupTimer) → Lasts s at group timer → Lasts (flush m other s) at group timer
    lasts_by_other m s timer lasts = grind (arith, flush_other m s, (flush_leaves other m s).members group differ)

  -- its own flush sets its timer, and drops no member
  abbrev reset : Moment → State → GroupTimer → GroupTimer
  reset m s timer = record timer { next_flush = m + group_interval_of s.config group.route; flushed = true }

  pipeline_own : (m : Moment) (ms : Members) (s : State) → m ≤ at → 0 < length ms → all_fire_until (at + 1) ms ≡ true → run_pipeline m group ms s ≡ notify_receiver m group (let_through s m group.route ms) s
  unfolding drop_resolved
  pipeline_own m [] s soon some fire = absurd (omega (arith, some))
  pipeline_own m (x ∷ ms) s soon some fire =
      let before : m < at + 1 = omega (arith, soon) in
      let itself : m ≤ m = omega arith in
      let told : State = notify_receiver m group (let_through s m group.route (x ∷ ms)) s in
      λ i. mark_if_empty m group (firing_all m (at + 1) m itself before (x ∷ ms) fire i) (fold (drop_member group) told (resolved_none m (at + 1) m itself before (x ∷ ms) fire i))

  own_parts : (m : Moment) (s : State) (timer : GroupTimer) → m ≤ at → Lasts s at group timer → parts (flush m group s) ≡ parts (with_timer_reset m group s)
  unfolding flush
  own_parts m s timer soon lasts =
      let reset : State = with_timer_reset m group s in
      ap parts (pipeline_own m (members s group) reset soon lasts.some lasts.fire)
      ∙ notify_receiver_holds (λ x. parts x ≡ parts reset) m group (let_through reset m group.route (members s group)) (λ _ _ e. e) reset refl

  reset_timed : (m : Moment) (s : State) (timer : GroupTimer) → get s.timers group ≡ Some timer → get (with_timer_reset m group s).timers group ≡ Some (reset m s timer)
  reset_timed m s timer timed =
      ap (λ (o : Option GroupTimer). get (option_map_or (λ t. insert s.timers group (reset m s t)) o s.timers) group) timed
      ∙ get-inserted route_labels_cmp_total route_labels_cmp-IsAntisymmetric s.timers group (reset m s timer)

  lasts_by_own : (m : Moment) (s : State) (timer : GroupTimer) → m ≤ at → Lasts s at group timer → Lasts (flush m group s) at group (reset m s timer)
  lasts_by_own m s timer soon lasts = grind (arith, own_parts m s timer soon lasts, reset_timed m s timer lasts.timed, members_by s (flush m group s))

  -- after a move it still lasts, and its next flush is at most one interval later
  record Next (s : State) (timer : GroupTimer) (d : Due) : Type 0 where
    after : GroupTimer
    lasts : Lasts (move d s) at group after
    soon : after.next_flush ≤ timer.next_flush + group_interval_of s.config group.route

  by_alert : (s : State) (timer : GroupTimer) (alert : LabelSet × Alert) → Lasts s at group timer → Next s timer (alert_removal_of alert)
  unfolding move members
  by_alert s timer alert lasts = record { after = timer; lasts = assumption; soon = omega arith }

  by_removal : (s : State) (timer : GroupTimer) (since : Moment) (other : RouteLabels) → (group ≡ other → ⊥) → Lasts s at group timer → Next s timer (removal_of other since)
  unfolding move members
  by_removal s timer since other differ lasts = record {
    after = timer;
    lasts = grind (arith, get-remove route_labels_cmp_total s.timers other group, tells_apart route_labels_cmp-IsAntisymmetric group other);
    soon = omega arith;
  }

  by_flush : (s : State) (timer : GroupTimer) (other : RouteLabels) (its : GroupTimer) → get s.timers other ≡ Some its → its.next_flush ≤ at → Lasts s at group timer → Next s timer (flush_of (other, its))
  unfolding move
  by_flush s timer other its timed soon lasts = elim (same_or_apart route_labels_cmp_total route_labels_cmp-IsAntisymmetric group other) [
    | inl same ↦
        let mine : timer ≡ its = grind (arith, lasts.timed) in
        record { after = reset its.next_flush s timer; lasts = grind (arith, lasts_by_own its.next_flush s timer soon lasts); soon = grind arith }
    | inr apart ↦ record { after = timer; lasts = lasts_by_other other apart.0 its.next_flush s timer lasts; soon = omega arith }
  ]

  after_move : (s : State) (timer : GroupTimer) (d : Due) → Lasts s at group timer → next_due at s ≡ Some d → Next s timer d
  unfolding dues
  after_move s timer d lasts next =
      let due = next_is_due at s d next in
      due_holds s.alerts s.timers (λ d. d.moment ≤ at → Next s timer d) (λ labels alert _ _. by_alert s timer (labels, alert) lasts)
      (λ other its since timed empty _. by_removal s timer since other
      (λ mine. absurd (cc (empty, lasts.full, ap (λ (o : Option GroupTimer). option_map_or (λ t. t.empty_since) o None) (sym lasts.timed ∙ ap (λ (g : RouteLabels). get s.timers g) mine ∙ timed)))) lasts)
      (λ other its timed soon. by_flush s timer other its timed soon lasts) d due.0 due.1

  pub some_due : (s : State) (timer : GroupTimer) → get s.timers group ≡ Some timer → timer.next_flush ≤ at → (d : Due) × (next_due at s ≡ Some d)
  some_due s timer timed soon = elim (next_due at s) as (λ o. next_due at s ≡ o → (d : Due) × (next_due at s ≡ Some d)) [
    | None ↦ λ e.
        let later : at < timer.next_flush = Advances-ends at s [] s (e, refl) (flush_of (group, timer)) (flush_is_due s group timer timed) in
        absurd (omega (arith, later, soon))
    | Some d ↦ λ e. (d, e)
  ] refl

  -- its flushes alone are more than this many
  pub too_many : (left : ℕ) (s : State) (timer : GroupTimer) → IsFlushedBeyond left s at group timer → advance left at s ≡ None
  too_many zero s timer (lasts, late) =
      let soon : timer.next_flush ≤ at = omega (arith, late) in
      let d = some_due s timer lasts.timed soon in
      ap (λ (o : Option Due). option_map_or (λ d. None) o (Some ([], s))) d.1
  too_many (suc left) s timer (lasts, late) =
      let soon : timer.next_flush ≤ at = omega (arith, late) in
      let d = some_due s timer lasts.timed soon in
      let next = after_move s timer d.0 lasts d.1 in
      let same : (move d.0 s).config ≡ s.config = ap (λ (by : Judged). by.1) (move_keeps d.0 s) in
      let later : next.after.next_flush + left * group_interval_of (move d.0 s).config group.route ≤ at =
      rw same (omega (arith, late, next.soon)) in
      ap (λ (o : Option Due). option_map_or (λ d. option_map (after_step (next_due at) move d) (advance left at (move d s))) o (Some ([], s))) d.1
      ∙ ap (option_map (after_step (next_due at) move d.0)) (too_many left (move d.0 s) next.after (next.lasts, later))

-- what the code finds of a group
pub late_enough : (left at next interval its : ℕ) → its ≡ interval → next ≤ at → left * interval ≤ at - next → next + left * its ≤ at
late_enough left at next interval its same soon late = grind arith

pub some_members : (ms : Members) → false ≡ (length ms == 0) → 0 < length ms
some_members ms e = grind (arith, nat_tests)
