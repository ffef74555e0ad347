-- Putting a value where it is, and the groups that take an alert.
use Rattle.std.proofs.Common.{[], ◌≡◌, ℕ, List, ◌∷◌, Option, Some, map, option_map, length, slice_get, Ordering, ap, sym, refl, ◌∙◌, arith}
use Rattle.std.specs.Cmp.{IsTotalOrder}
use Rattle.std.specs.FinMap.{IsAntisymmetric}
use Rattle.std.proofs.lemmas.List.{length-map}
use Rattle.std.proofs.lemmas.Option.{slice_get-map}
use Rattle.amr_labels.specs.Map.{Map, get, insert, get-insert, same_map}
use Rattle.amr_labels.specs.Labels.{LabelSet}
use Rattle.amr_config.specs.Stated.Config.{Config}
use Rattle.amr_config.specs.Routing.{chosen_routes}
use Rattle.amr_config.specs.Groups.{groups_of, group_at}
use Rattle.amr_config.specs.declared.route_labels.RouteLabels.{RouteLabels}
use Rattle.std.proofs.lemmas.Map.Views.{tells_apart}

-- putting the value of a key under that key changes nothing
pub put_as_it_is : {K X : Type 0} {R : K → K → Ordering} (o : IsTotalOrder R) → IsAntisymmetric R → (m : Map R X) (k : K) (v : X) → get m k ≡ Some v → insert m k v ≡ m
put_as_it_is o same m k v e = same_map o same _ _ (λ q. grind (arith, get-insert o m k v q, tells_apart same q k))

-- ---- the groups that take an alert

routes_of_made : (config : Config) (labels : LabelSet) (routes : List ℕ) → map (λ (group : RouteLabels). group.route) (map (group_at config labels) routes) ≡ routes
routes_of_made config labels [] = refl
routes_of_made config labels (n ∷ ns) = ap (λ t. n ∷ t) (routes_of_made config labels ns)

pub routes_of_groups : (config : Config) (labels : LabelSet) → map (λ (group : RouteLabels). group.route) (groups_of config labels) ≡ chosen_routes config labels
unfolding groups_of
routes_of_groups config labels = routes_of_made config labels (chosen_routes config labels)

pub count_of_groups : (config : Config) (labels : LabelSet) → length (groups_of config labels) ≡ length (chosen_routes config labels)
unfolding groups_of
count_of_groups config labels = length-map (chosen_routes config labels) (group_at config labels)

made_among : (config : Config) (labels : LabelSet) (route : Option ℕ) (group : RouteLabels) → option_map (group_at config labels) route ≡ Some group → group ≡ group_at config labels group.route
made_among config labels route group e = grind arith

pub group_among : (config : Config) (labels : LabelSet) (n : ℕ) (group : RouteLabels) → slice_get (groups_of config labels) n ≡ Some group → group ≡ group_at config labels group.route
unfolding groups_of
group_among config labels n group e = made_among config labels (slice_get (chosen_routes config labels) n) group (sym (slice_get-map (group_at config labels) (chosen_routes config labels) n) ∙ e)
