-- How many members a reload makes: one for each stored alert and each of its chosen routes.
use Rattle.std.proofs.Common.{[], ◌≡◌, ℕ, zero, suc, Bool, T, List, ◌∷◌, None, is_some, cond, length, ◌+◌, ◌≤◌, Ordering, Less, Equal, refl, sym, ap, ◌∙◌, arith}
use Rattle.std.specs.List.{fold, filter, range_with_len}
use Rattle.std.specs.Cmp.{IsTotalOrder}
use Rattle.std.specs.FinMap.Entries.{is_sorted, below_all, length-put}
use Rattle.std.proofs.lemmas.Cmp.{tied_itself}
use Rattle.std.proofs.lemmas.List.Sums.{sum_by-cons}
use Rattle.amr_labels.proofs.Sorted.{first, second, less}
use Rattle.amr_labels.specs.Map.{Map, get, insert, entries, empty, len, get-empty, get-entries, entries-insert, entries-sorted}
use Rattle.amr_labels.specs.Labels.{LabelSet, label_set_cmp, label_set_cmp_total}
use Rattle.amr_config.specs.Stated.Config.{Config}
use Rattle.amr_config.specs.Routing.{chosen_routes, is_chosen}
use Rattle.amr_rules.specs.declared.alert.Alert.{Alert}
use Rattle.amr_rules.specs.Alerts.{alert_to_store}
use Rattle.amr_config.specs.declared.route_labels.RouteLabels.{RouteLabels}
use Rattle.amr_config.specs.RouteLabels.{on_route, route_labels_cmp, route_labels_cmp_total, route_labels_cmp-IsAntisymmetric}
use Rattle.amr_engine.specs.State.State.{State, insert_into_group, insert_into_groups}
use Rattle.amr_engine.specs.Events.{put, with_config}
use Rattle.amr_engine.specs.Weight.{copies}
use Rattle.amr_engine.proofs.QuietStays.{apart}
use Rattle.amr_engine.proofs.PlacedPosts.{placed_elsewhere, inserted_is, inserted_others}

-- a new key makes a map longer by one
longer : {K X : Type 0} {R : K → K → Ordering} → IsTotalOrder R → (m : Map R X) (k : K) (v : X) → get m k ≡ None → len (insert m k v) ≡ len m + 1
longer {R = R} o m k v none =
    ap length (entries-insert o m k v) ∙ length-put R o k v (entries m) (entries-sorted m)
    ∙ ap (λ x. cond (is_some x) (len m) (len m + 1)) (sym (get-entries m k) ∙ none)

-- a member elsewhere leaves a key free
still_free : (s : State) (labels : LabelSet) (alert : Alert) (route : ℕ) (q : RouteLabels) → (q ≡ on_route route labels → ⊥) → get s.placements q ≡ None → get (insert_into_group labels alert s route).placements q ≡ None
still_free s labels alert route q differ free = placed_elsewhere labels alert s route q (apart route_labels_cmp-IsAntisymmetric q (on_route route labels) differ) ∙ free

-- no member has these labels, on the routes from a number on
abbrev pub IsFree : State → LabelSet → ℕ → Type 0
IsFree s labels from = (route : ℕ) → from ≤ route → get s.placements (on_route route labels) ≡ None

module _ (p : ℕ → Bool) (labels : LabelSet) (alert : Alert) where
  abbrev placed : State → ℕ → ℕ → State
  placed s from n = fold (insert_into_group labels alert) s (filter p (range_with_len from n))

  placed_len : (n from : ℕ) (s : State) → IsFree s labels from → len (placed s from n).placements ≡ len s.placements + length (filter p (range_with_len from n))
  placed_len zero from s free = omega arith
  placed_len (suc n) from s free =
      let next : State = insert_into_group labels alert s from in
      let free_next : IsFree next labels (from + 1) = λ route le.
      still_free s labels alert from (on_route route labels) (λ e. let same : route ≡ from = ap (λ (x : RouteLabels). x.route) e in omega (arith, same, le)) (free route (omega (arith, le))) in
      let one = longer route_labels_cmp_total s.placements (on_route from labels) alert (free from (omega arith)) in
      grind (arith, one, placed_len n (from + 1) next free_next, placed_len n (from + 1) s (λ route le. free route (omega (arith, le))))

pub insert_into_groups-config : (s : State) (alert : LabelSet × Alert) → (insert_into_groups s alert).config ≡ s.config
insert_into_groups-config s alert = ap (λ (x : State). x.config) (inserted_is s alert.0 alert.1)

pub put-config : (s : State) (alert : LabelSet × Alert) → (put s alert).config ≡ s.config
unfolding put
put-config s alert = insert_into_groups-config (record s { alerts = insert s.alerts alert.0 (alert_to_store s.moment (get s.alerts alert.0) alert.1) }) (alert.0, alert_to_store s.moment (get s.alerts alert.0) alert.1)

inserted_len : (s : State) (alert : LabelSet × Alert) → IsFree s alert.0 0 → len (insert_into_groups s alert).placements ≡ len s.placements + length (chosen_routes s.config alert.0)
unfolding insert_into_groups chosen_routes
inserted_len s alert free = placed_len (is_chosen s.config alert.0) alert.0 alert.1 (length s.config.routes) 0 s free

inserted_free : (s : State) (alert : LabelSet × Alert) (labels : LabelSet) → label_set_cmp alert.0 labels ≡ Less → IsFree s labels 0 → IsFree (insert_into_groups s alert) labels 0
inserted_free s alert labels less free = λ route le.
    inserted_others s alert.0 alert.1 (on_route route labels)
    (λ same. let level : Equal ≡ Less = sym (tied_itself label_set_cmp_total alert.0) ∙ ap (label_set_cmp alert.0) (sym same) ∙ less in absurd (cc)) ∙ free route le

-- no member has the labels of any of these alerts
AreFree : State → List (LabelSet × Alert) → Type 0
AreFree s [] = Unit {0}
AreFree s (alert ∷ alerts) = IsFree s alert.0 0 × AreFree s alerts

rest_free : (s : State) (alert : LabelSet × Alert) (alerts : List (LabelSet × Alert)) → T (below_all label_set_cmp alert.0 alerts) → AreFree s alerts → AreFree (insert_into_groups s alert) alerts
unfolding AreFree
rest_free s alert [] below free = tt
rest_free s alert (other ∷ alerts) below free =
    (inserted_free s alert other.0 (less _ (first _ _ below)) free.0, rest_free s alert alerts (second _ _ below) free.1)

placed_all : (config : Config) (alerts : List (LabelSet × Alert)) (s : State) → s.config ≡ config → T (is_sorted label_set_cmp alerts) → AreFree s alerts
    → len (fold insert_into_groups s alerts).placements ≡ len s.placements + copies config alerts
unfolding AreFree
placed_all config [] s same sorted free = omega arith
placed_all config (alert ∷ alerts) s same sorted free =
    placed_all config alerts (insert_into_groups s alert) (insert_into_groups-config s alert ∙ same) (second _ _ sorted) (rest_free s alert alerts (first _ _ sorted) free.1)
    ∙ ap (λ k. k + copies config alerts) (inserted_len s alert free.0 ∙ ap (λ c. len s.placements + length (chosen_routes c alert.0)) same)
    ∙ omega (arith, sum_by-cons (λ (a : LabelSet × Alert). length (chosen_routes config a.0)) alert alerts)

none_placed : (s : State) (config : Config) (alerts : List (LabelSet × Alert)) → AreFree (record s { config = config; placements = empty; timers = empty }) alerts
unfolding AreFree
none_placed s config [] = tt
none_placed s config (alert ∷ alerts) = ((λ route le. get-empty route_labels_cmp (on_route route alert.0)), none_placed s config alerts)

len-empty : {K : Type 0} (X : Type 0) (R : K → K → Ordering) → len (empty {X = X} {R = R}) ≡ 0
unfolding entries empty
len-empty X R = refl

-- after a reload each stored alert is a member on each of its chosen routes
pub copies_are_members : (s : State) (config : Config) → len (with_config s config).placements ≡ copies config (entries s.alerts)
unfolding with_config
copies_are_members s config =
    placed_all config (entries s.alerts) (record s { config = config; placements = empty; timers = empty }) refl (entries-sorted s.alerts) (none_placed s config (entries s.alerts))
    ∙ ap (λ k. k + copies config (entries s.alerts)) (len-empty Alert route_labels_cmp) ∙ omega arith
