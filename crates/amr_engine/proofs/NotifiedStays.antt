-- What leaves a group notified: all but flushes of the group, posts of its alerts, and a reload.
use Rattle.std.proofs.Common.{[], ◌≡◌, ◌<◌, ℕ, Bool, false, List, ◌∷◌, Some, cond, map, length, ◌⊎◌, filter, fold, Ordering, refl, sym, ap, ◌∙◌, subst, arith}
use Rattle.std.specs.Ordering.{eq_by_cmp}
use Rattle.std.specs.FinMap.Entries.{put}
use Rattle.std.specs.FinMap.{IsAntisymmetric}
use Rattle.amr_labels.specs.Map.{Map, get, insert, remove, entries, entries-insert}
use Rattle.amr_labels.specs.Labels.{LabelSet}
use Rattle.amr_time.specs.Time.{Moment}
use Rattle.amr_config.specs.declared.stated.receiver.Integration.{Integration}
use Rattle.amr_config.specs.Stated.Config.{Config}
use Rattle.amr_config.specs.Routing.{HasOwnPath, chosen_routes}
use Rattle.amr_config.specs.Groups.{groups_of, group_at}
use Rattle.amr_rules.specs.declared.alert.Alert.{Alert}
use Rattle.amr_rules.specs.Alerts.{alert_to_store}
use Rattle.amr_rules.specs.Muting.{Alerts}
use Rattle.amr_rules.specs.Silences.{Silences}
use Rattle.amr_engine.specs.declared.state.notification.LogKey.{LogKey}
use Rattle.amr_engine.specs.declared.state.notification.GroupTimer.{GroupTimer}
use Rattle.amr_engine.specs.declared.state.notification.Notification.{Notification}
use Rattle.amr_config.specs.declared.route_labels.RouteLabels.{RouteLabels}
use Rattle.amr_config.specs.RouteLabels.{on_route, route_labels_cmp, route_labels_cmp_total, route_labels_cmp-IsAntisymmetric}
use Rattle.amr_engine.specs.State.State.{State, group_key, members, insert_into_group, insert_into_groups}
use Rattle.amr_engine.specs.declared.quiet.Period.{Period}
use Rattle.amr_engine.specs.declared.quiet.QuietTime.{QuietTime}
use Rattle.amr_engine.specs.Events as events
use Rattle.amr_engine.specs.Flush.{log_key_of}
use Rattle.amr_engine.specs.Quiet.{IsAllNotified, LeavesOthers}
use Rattle.amr_engine.specs.CachedQuiet.{Times, IsNotifiedIn, without_joined}
use Rattle.amr_engine.proofs.PlacedLists.{get-after_remove, get-insert_cases}
use Rattle.amr_engine.proofs.QuietLaws.{notified_alike}
use Rattle.amr_engine.proofs.QuietStays.{apart}

-- ---- one group

-- it depends on the configuration, the group's members and its log entries
pub stays_notified : (s t : State) (group : RouteLabels) → t.config ≡ s.config
    → ((integration : Integration) → get t.log (log_key_of s.config group integration) ≡ get s.log (log_key_of s.config group integration))
    → members t group ≡ members s group → (period : Period) → IsNotifiedIn s group period → IsNotifiedIn t group period
stays_notified s t group config log same period notified = record {
  own = subst (λ (c : Config). HasOwnPath c group.route) (sym config) notified.own;
  notified = subst (IsAllNotified t group period.from period.until) (sym same)
      (record { fire = notified.notified.fire; notified = notified_alike s t group config log period.from period.until (members s group) ∙ notified.notified.notified });
}

-- ---- a group that is removed from what is cached

-- what is still cached is of another group, and was cached before
pub still_cached : (times : Times) (removed group : RouteLabels) (time : QuietTime) → get (remove times removed) group ≡ Some time → (group ≡ removed → ⊥) × (get times group ≡ Some time)
still_cached times removed group time cached = get-after_remove route_labels_cmp_total route_labels_cmp-IsAntisymmetric times removed group time cached

-- what is cached after one more was put is that, or was cached before
pub now_cached : (times : Times) (added : RouteLabels) (one : QuietTime) (group : RouteLabels) (time : QuietTime) → get (insert times added one) group ≡ Some time
    → ((group ≡ added) × (one ≡ time)) ⊎ (get times group ≡ Some time)
now_cached times added one group time cached = get-insert_cases route_labels_cmp_total route_labels_cmp-IsAntisymmetric times added one group time cached

-- ---- a flush

-- a group on a route that is there shares no log entry with another group, whose route has a path of
-- its own
pub other_key : (config : Config) (group owner : RouteLabels) → group.route < length config.routes → HasOwnPath config owner.route → (group ≡ owner → ⊥)
    → (integration its : Integration) → log_key_of config group integration ≡ log_key_of config owner its → ⊥
other_key config group owner there own other integration its e =
    let labels : group.labels ≡ owner.labels = ap (λ (k : LogKey). k.group) e in
    let route : group.route ≡ owner.route = own.own group.route there (ap (λ (k : LogKey). k.path) e) in
    other (λ i. on_route (route i) (labels i))

pub left_notified : (s t : State) (flushed : RouteLabels) → LeavesOthers flushed s t → (group : RouteLabels) → (group ≡ flushed → ⊥)
    → ((integration its : Integration) → log_key_of s.config group integration ≡ log_key_of s.config flushed its → ⊥) → (period : Period) → IsNotifiedIn s group period → IsNotifiedIn t group period
left_notified s t flushed same group other keys period notified =
    stays_notified s t group same.config (λ integration. same.log (log_key_of s.config group integration) (keys integration)) (same.members group other) period notified

-- ---- the clock, timers, notifications, stored alerts and silences

module _ (s : State) (moment : Moment) (alerts : Alerts) (silences : Silences) (timers : Map route_labels_cmp GroupTimer) (notes : List Notification) where
  abbrev beside : State
  beside = record s { moment = moment; alerts = alerts; silences = silences; timers = timers; notes = notes }

  beside_members : (group : RouteLabels) → members beside group ≡ members s group
  unfolding members
  beside_members group = refl

  -- none of them matters
  pub beside_notified : (group : RouteLabels) (period : Period) → IsNotifiedIn s group period → IsNotifiedIn beside group period
  beside_notified group period notified = stays_notified s beside group refl (λ integration. refl) (beside_members group) period notified

-- ---- a post of alerts

-- a new entry, or a new value, at a key that a test doesn't keep
put_elsewhere : {K X : Type 0} (R : K → K → Ordering) → IsAntisymmetric R → (test : K → Bool) (k : K) (v : X) → test k ≡ false → (es : List (K × X))
    → filter (λ e. test e.0) (put R k v es) ≡ filter (λ e. test e.0) es
put_elsewhere R exact test k v gone [] = λ i. cond (gone i) ((k, v) ∷ []) []
put_elsewhere R exact test k v gone (e ∷ es) = grind (arith, put_elsewhere R exact test k v gone es, exact k e.0)

module _ (labels : LabelSet) (alert : Alert) where
  inserted_one_members : (s : State) (route : ℕ) (asked : RouteLabels) → (asked ≡ group_key s.config (on_route route labels) → ⊥) → members (insert_into_group labels alert s route) asked ≡ members s asked
  unfolding members
  inserted_one_members s route asked other =
      ap (map (λ (placement : RouteLabels × Alert). (placement.0.labels, placement.1)))
      (ap (filter (λ (placement : RouteLabels × Alert). eq_by_cmp route_labels_cmp (group_key s.config placement.0) asked)) (entries-insert route_labels_cmp_total s.placements (on_route route labels) alert)
      ∙ put_elsewhere route_labels_cmp route_labels_cmp-IsAntisymmetric (λ route_labels. eq_by_cmp route_labels_cmp (group_key s.config route_labels) asked) (on_route route labels) alert
      (apart route_labels_cmp-IsAntisymmetric (group_key s.config (on_route route labels)) asked (λ e. other (sym e))) (entries s.placements))

  -- an alert that is inserted into groups leaves those notified that are still cached
  left_by_insertions : (routes : List ℕ) (s : State) (times : Times) (group : RouteLabels) (time : QuietTime) → get (fold remove times (map (group_at s.config labels) routes)) group ≡ Some time
      → (IsNotifiedIn s group time.period → IsNotifiedIn (fold (insert_into_group labels alert) s routes) group time.period) × (get times group ≡ Some time)
  left_by_insertions [] s times group time cached = (λ notified. notified, cached)
  left_by_insertions (route ∷ routes) s times group time cached =
      let rest = left_by_insertions routes (insert_into_group labels alert s route) (remove times (group_at s.config labels route)) group time cached in
      let here = still_cached times (group_key s.config (on_route route labels)) group time rest.1 in
      (λ notified. rest.0 (stays_notified s (insert_into_group labels alert s route) group refl (λ integration. refl) (inserted_one_members s route group here.0) time.period notified), here.1)

-- the post of an alert leaves the groups notified that it doesn't join
pub left_by_post : (s : State) (times : Times) (alert : LabelSet × Alert) (group : RouteLabels) (time : QuietTime) → get (without_joined s.config times alert.0) group ≡ Some time
    → (IsNotifiedIn s group time.period → IsNotifiedIn (events.put s alert) group time.period) × (get times group ≡ Some time)
unfolding events.put insert_into_groups groups_of
left_by_post s times alert group time cached =
    let stored : Alert = alert_to_store s.moment (get s.alerts alert.0) alert.1 in
    let after = left_by_insertions alert.0 stored (chosen_routes s.config alert.0) (record s { alerts = insert s.alerts alert.0 stored }) times group time cached in
    (λ notified. after.0 (beside_notified s s.moment (insert s.alerts alert.0 stored) s.silences s.timers s.notes group time.period notified), after.1)
