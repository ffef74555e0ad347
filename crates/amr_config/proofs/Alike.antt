-- Configurations that are alike give the same groups and the same sides.
use Rattle.std.proofs.Common.{◌≡◌, ℕ, Bool, true, false, not, List, [], ◌∷◌, ◌<◌, length, get_or, map, None, refl, sym, ap, subst, ◌∙◌, ◌&&◌, zero, suc, nat_lt, ◌==◌, slice_get, Decides, Ordering, arith}
use Rattle.std.specs.Cmp.{IsTotalOrder}
use Rattle.std.specs.Cmp.Lexicographic.{pointwise, nat_list_cmp_total}
use Rattle.std.specs.FinMap.{IsAntisymmetric}
use Rattle.std.specs.Ordering.{eq_by_cmp}
use Rattle.std.proofs.lemmas.Bool.{false≢true}
use Rattle.std.proofs.lemmas.Cmp.{eq_by_cmp_equiv}
use Rattle.std.proofs.lemmas.Map.Views.{tells_apart}
use Rattle.std.proofs.lemmas.Slice.Eq.{slice_eq-Decides}
use Rattle.std.specs.Option.{option_map_or, option_or}
use Rattle.std.specs.List.{list_all, list_any, filter, range_with_len}
use Rattle.std.proofs.lemmas.List.{length-map, get_or-map}
use Rattle.std.proofs.lemmas.Option.{slice_get-map}
use Rattle.std.proofs.lemmas.Simd.{map-map}
use Rattle.amr_labels.specs.Labels.{Text, text_cmp, text_cmp-IsAntisymmetric, LabelSet}
use Rattle.amr_labels.specs.Matcher.Matchers.{Matcher, all_hold, matcher_cmp, matcher_cmp_total, matcher_cmp-IsAntisymmetric}
use Rattle.amr_config.specs.declared.stated.rule.InhibitRule.{InhibitRule}
use Rattle.amr_config.specs.declared.stated.rule_sides.RuleMatch.{RuleMatch}
use Rattle.amr_config.specs.Stated.Config.{Config}
use Rattle.amr_config.specs.Stated.RuleMatches.{rule_matches}
use Rattle.amr_config.specs.Alike.{RoutingPart, routing_part, sides, AreAlike}
use Rattle.amr_config.specs.Groups.{groups_of, routing_to_cache}
use Rattle.amr_config.specs.Routing.{route_numbers, parent_of, line_within, line_of, matches_route, is_child, is_cut_off, route_is, first_stated, inherited_value, grouped_by, chosen_routes, group_of}

module _ (a b : Config) (same : map routing_part a.routes ≡ map routing_part b.routes) where
  part : {X : Type 0} (f : RoutingPart → X) (d : X) (n : ℕ) → option_map_or (λ route. f (routing_part route)) (slice_get a.routes n) d ≡ option_map_or (λ route. f (routing_part route)) (slice_get b.routes n) d
  part f d n = grind (arith, slice_get-map routing_part a.routes n, slice_get-map routing_part b.routes n, ap (λ parts. slice_get parts n) same)

  parents : (n : ℕ) → parent_of a n ≡ parent_of b n
  parents n = part (λ p. p.parent) None n

  numbers : route_numbers a ≡ route_numbers b
  numbers = ap (range_with_len 0) (sym (length-map a.routes routing_part) ∙ ap length same ∙ length-map b.routes routing_part)

  lines : (most n : ℕ) → line_within most a n ≡ line_within most b n
  lines zero n = refl
  lines (suc most) n = λ i. n ∷ option_map_or (λ parent. lines most parent i) (parents n i) []

  module _ (labels : LabelSet) where
    matches : (n : ℕ) → matches_route a labels n ≡ matches_route b labels n
    matches n = part (λ p. all_hold p.matchers labels) false n

    continues : (n : ℕ) → route_is (λ route. route.continues) a n ≡ route_is (λ route. route.continues) b n
    continues n = part (λ p. p.continues) false n

    children : (parent n : ℕ) → is_child a parent n ≡ is_child b parent n
    children parent n = λ i. option_map_or (λ p. p == parent) (parents n i) false

    cut_off : (n : ℕ) → is_cut_off a labels n ≡ is_cut_off b labels n
    cut_off n = λ i. list_any (λ m. nat_lt m n && option_map_or (λ parent. children parent m i) (parents n i) false && matches m i && not (continues m i)) (numbers i)

    same_chosen : chosen_routes a labels ≡ chosen_routes b labels
    unfolding chosen_routes
    same_chosen = λ i. filter (λ n. list_all (λ m. matches m i && not (cut_off m i)) (lines n n i) && not (list_any (λ m. children n m i && matches m i) (numbers i))) (numbers i)

    same_first : (ns : List ℕ) → first_stated (λ route. route.group_by) a ns ≡ first_stated (λ route. route.group_by) b ns
    same_first [] = refl
    same_first (n ∷ ns) = λ i. option_or (part (λ p. p.group_by) None n i) (same_first ns i)

    same_group : (n : ℕ) → group_of a n labels ≡ group_of b n labels
    unfolding group_of inherited_value
    same_group n = ap (λ grouping. grouped_by grouping labels) (ap (first_stated (λ route. route.group_by) a) (lines n n) ∙ same_first (line_of b n))

    same_groups : groups_of a labels ≡ groups_of b labels
    unfolding groups_of
    same_groups = λ i. map (λ n. record { route = n; labels = same_group n i }) (same_chosen i)

match_of : LabelSet → List Matcher × List Matcher → RuleMatch
match_of labels side = record { is_source = all_hold side.0 labels; is_target = all_hold side.1 labels }

by_sides : (labels : LabelSet) (rules : List InhibitRule) → rule_matches labels rules ≡ map (match_of labels) (map sides rules)
unfolding rule_matches match_of
by_sides labels rules = sym (map-map (match_of labels) sides rules)

-- configurations that are alike give each label set the same groups and sides
pub same_cached : (a b : Config) → AreAlike a b → (labels : LabelSet) → routing_to_cache a labels ≡ routing_to_cache b labels
same_cached a b alike labels =
    let rules : rule_matches labels a.rules ≡ rule_matches labels b.rules = by_sides labels a.rules ∙ ap (map (match_of labels)) alike.rules ∙ sym (by_sides labels b.rules) in
    let groups = same_groups a b alike.routes labels in
    λ i. record { labels = labels; groups = groups i; rules = rules i }

-- ---- lists whose elements are alike, one by one

module _ {X Y : Type 0} (f : X → Y) (xs ys : List X) (k : ℕ) (x y : X) (within : k < length xs) (within_other : k < length ys) (x_is : x ≡ get_or xs k x) (y_is : y ≡ get_or ys k y) where
  pub unlike_at : (r : Bool) → Decides r (f x ≡ f y) → r ≡ false → Decides false (map f xs ≡ map f ys)
  unlike_at r alike fails = (λ yes. absurd (cc), λ same. absurd (false≢true (sym fails ∙ alike.1 (grind (arith, get_or-map f xs k x (f x), get_or-map f ys k y (f x))))))

-- values that compare as equal are the same
pub tie_decides : {K : Type 0} {R : K → K → Ordering} → IsTotalOrder R → IsAntisymmetric R → (x y : K) → Decides (eq_by_cmp R x y) (x ≡ y)
tie_decides {K} {R} total same x y = (tells_apart same x y, λ e. subst (λ z. eq_by_cmp R x z ≡ true) e ((eq_by_cmp_equiv total).refl x))

pub matchers_decide : (xs ys : List Matcher) (r : Bool) → r ≡ pointwise (eq_by_cmp matcher_cmp) xs ys → Decides r (xs ≡ ys)
matchers_decide = slice_eq-Decides (tie_decides matcher_cmp_total matcher_cmp-IsAntisymmetric)

pub names_decide : (xs ys : List Text) (r : Bool) → r ≡ pointwise (eq_by_cmp text_cmp) xs ys → Decides r (xs ≡ ys)
names_decide = slice_eq-Decides (tie_decides nat_list_cmp_total text_cmp-IsAntisymmetric)
