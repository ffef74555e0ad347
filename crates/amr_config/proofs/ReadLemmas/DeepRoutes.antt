-- The routes have more levels than are left exactly if a route is that deep.
use Rattle.std.proofs.Common.{◌≡◌, ℕ, zero, suc, ◌+◌, ◌-◌, Bool, true, false, Option, Some, None, inl, inr, refl, subst, arith, codes}
use Rattle.std.specs.Option.{option_map_or}
use Rattle.std.proofs.lemmas.Bool.{or_cases}
use Rattle.serde_json.specs.Data.{Data, array, Items, no_items, item}
use Rattle.serde_json.specs.Find.{get_item}
use Rattle.amr_config.specs.Read.Members.{member_of, any_item, list_in}
use Rattle.amr_config.specs.Read.RouteParts.{is_deeper, is_too_deep}
use Rattle.amr_config.specs.Read.Levels.{IsAtLevel, Root, Below, HasDeepRoute}

-- an item that passes the test has an index
any_found : (p : Data → Bool) (ds : Items) → any_item p ds ≡ true → (index : ℕ) × (d : Data) × (get_item index ds ≡ Some d) × (p d ≡ true)
any_found p no_items e = absurd (cc)
any_found p (item d ds) e =
    elim (or_cases (p d) (any_item p ds) e) [
      | inl is ↦ (0, d, refl, is)
      | inr later ↦ let (index, found, at, holds) = any_found p ds later in (suc index, found, at, holds)
    ]

any_from : (p : Data → Bool) (ds : Items) (index : ℕ) (d : Data) → get_item index ds ≡ Some d → p d ≡ true → any_item p ds ≡ true
any_from p no_items index d at holds = absurd (cc)
any_from p (item e ds) zero d at holds = grind arith
any_from p (item e ds) (suc index) d at holds = grind (arith, any_from p ds index d at holds)

-- an item that is found is in an array
list_there : (p : Data → Bool) (o : Option Data) → any_item p (list_in o) ≡ true → (list : Items) × (o ≡ Some (array list)) × (any_item p list ≡ true)
list_there p (Some (array ds)) e = (ds, refl, e)
list_there p o e = absurd (cc)

-- if a route has more levels than are left, one is that far below it
goes_down : (whole : Data) (left : ℕ) (d : Data) (level : ℕ) → IsAtLevel whole d level → is_deeper left d ≡ true → (route : Data) × IsAtLevel whole route (level + left)
unfolding is_deeper
goes_down whole zero d level at e =
    let same : level ≡ level + 0 = omega arith in
    (d, subst (λ n. IsAtLevel whole d n) same at)
goes_down whole (suc left) d level at e =
    let (list, is, any) = list_there (is_deeper left) (member_of (codes "routes") d) e in
    let (index, child, found, deeper) = any_found (is_deeper left) list any in
    let (route, below) = goes_down whole left child (level + 1) (Below d list index child level at is found) deeper in
    let same : level + 1 + left ≡ level + suc left = omega arith in
    (route, subst (λ n. IsAtLevel whole route n) same below)

-- the levels below the root count from there
goes_up : (whole root d : Data) (level : ℕ) → IsAtLevel whole d level → member_of (codes "route") whole ≡ Some root → (left most : ℕ) → level + left ≡ suc most → is_deeper left d ≡ true → is_deeper most root ≡ true
unfolding is_deeper
goes_up whole root _ _ (Root top is) there left most sum e =
    let same : top ≡ root = cc in
    let as_many : left ≡ most = omega arith in
    rw (same, as_many) at e
goes_up whole root _ _ (Below above list index d level at is found) there left most sum e =
    goes_up whole root above level at there (suc left) most (omega arith) (rw is (any_from (is_deeper left) list index d found e))

root_there : (whole d : Data) (level : ℕ) → IsAtLevel whole d level → (root : Data) × (member_of (codes "route") whole ≡ Some root)
root_there whole _ _ (Root root is) = (root, is)
root_there whole _ _ (Below above list index d level at is found) = root_there whole above level at

shallower : (most : ℕ) (d : Data) → is_deeper (suc most) d ≡ true → is_deeper most d ≡ true
unfolding is_deeper
shallower zero d e = refl
shallower (suc most) d e =
    let (index, child, at, holds) = any_found (is_deeper (suc most)) (list_in (member_of (codes "routes") d)) e in
    any_from (is_deeper most) (list_in (member_of (codes "routes") d)) index child at (shallower most child holds)

much_shallower : (more n most : ℕ) (d : Data) → n ≡ more + most → is_deeper n d ≡ true → is_deeper most d ≡ true
much_shallower zero n most d is e = grind arith
much_shallower (suc more) n most d is e =
    let same : n ≡ suc (more + most) = omega arith in
    much_shallower more (more + most) most d refl (shallower (more + most) d (rw same at e))

pub deep_route_of : (d : Data) → is_too_deep d ≡ true → HasDeepRoute d
unfolding is_too_deep
deep_route_of d e = go (member_of (codes "route") d) refl e
  where
    go : (o : Option Data) → member_of (codes "route") d ≡ o → option_map_or (is_deeper 32) o false ≡ true → HasDeepRoute d
    go None is e = absurd (cc)
    go (Some root) is e =
        let (route, at) = goes_down d 32 root 1 (Root root is) e in
        (route, 33, at, omega arith)

pub too_deep_by : (d : Data) → HasDeepRoute d → is_too_deep d ≡ true
unfolding is_too_deep is_deeper
too_deep_by d (route, level, at, deep) =
    let (root, is) = root_there d route level at in
    let far : is_deeper (level - 1) root ≡ true = goes_up d root route level at is 0 (level - 1) (omega arith) refl in
    rw is (much_shallower (level - 33) (level - 1) 32 root (omega arith) far)
