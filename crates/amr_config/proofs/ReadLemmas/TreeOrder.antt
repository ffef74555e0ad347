-- The routes that are parsed are in preorder.
use Rattle.std.proofs.Common.{◌≡◌, false, inl, inr, ℕ, zero, suc, ◌+◌, ◌<◌, ◌≤◌, List, [], ◌∷◌, ◌++◌, length, length-append, Option, Some, None, Ok, refl, sym, ◌∙◌, arith, append_assoc, eq-or-lt_of_le, slice_get}
use Rattle.std.specs.Option.{option_map_or}
use Rattle.std.proofs.lemmas.Option.{none-some, same_Some, slice_get_past}
use Rattle.std.proofs.lemmas.List.{length_push, append-nil}
use Rattle.serde_json.specs.Data.{Data, Items}
use Rattle.amr_config.specs.declared.stated.route.Route.{Route}
use Rattle.amr_config.specs.declared.stated.stated.Stated.{Stated}
use Rattle.amr_config.specs.Read.Walking.{walked_at}
use Rattle.amr_config.specs.Read.RouteParts.{is_too_deep}
use Rattle.amr_config.specs.Read.Table.{IsTree as StatesTree, AreTrees as StatesTrees, Tree, NoMore, OneMore}
use Rattle.amr_config.specs.Settled.{AreParentsFirst, stated_config}
use Rattle.amr_config.proofs.ReadLemmas.JudgedRoutes.{walked_states}

abbrev pub parent_at : List Route → ℕ → Option ℕ
parent_at routes n = option_map_or (λ (route : Route). route.parent) (slice_get routes n) None

-- the second is the first, or is above it
pub data IsAbove (routes : List Route) : ℕ → ℕ → Type 0 where
  Itself : (n : ℕ) → IsAbove routes n n
  Further : (n parent above : ℕ) → parent_at routes n ≡ Some parent → IsAbove routes parent above → IsAbove routes n above

-- the parent of each route but the first is the route before it, or a route above that one
abbrev pub IsLinked : List Route → Type 0
IsLinked routes = (n : ℕ) → suc n < length routes → (parent : ℕ) × (parent_at routes (suc n) ≡ Some parent) × IsAbove routes n parent

parent_further : (routes more : List Route) (n : ℕ) → n < length routes → parent_at (routes ++ more) n ≡ parent_at routes n
parent_further [] more n lt = absurd (omega (arith, lt))
parent_further (r ∷ routes) more zero lt = refl
parent_further (r ∷ routes) more (suc n) lt = parent_further routes more n (omega (arith, lt))

parent_last : (routes : List Route) (route : Route) → parent_at (routes ++ route ∷ []) (length routes) ≡ route.parent
parent_last [] route = refl
parent_last (r ∷ routes) route = parent_last routes route

pub parent_within : (routes : List Route) (n parent : ℕ) → parent_at routes n ≡ Some parent → n < length routes
parent_within routes n parent e = grind (arith, slice_get_past routes n)

above_further : (routes more : List Route) (n above : ℕ) → IsAbove routes n above → IsAbove (routes ++ more) n above
above_further routes more _ _ (Itself n) = Itself n
above_further routes more _ _ (Further n parent above e up) =
    Further n parent above (parent_further routes more n (parent_within routes n parent e) ∙ e) (above_further routes more parent above up)

above_above : (routes : List Route) (n m parent : ℕ) → IsAbove routes n m → parent_at routes m ≡ Some parent → IsAbove routes n parent
above_above routes _ _ parent (Itself n) e = Further n parent parent e (Itself parent)
above_above routes _ _ top (Further n parent above is up) e = Further n parent top is (above_above routes parent above top up e)

-- the next route to be added may have this parent
record MayFollow (routes : List Route) (parent : Option ℕ) : Type 0 where
  linked : IsLinked routes
  follows : (last : ℕ) → suc last ≡ length routes → (p : ℕ) × (parent ≡ Some p) × IsAbove routes last p

linked_push : (routes : List Route) (route : Route) → MayFollow routes route.parent → IsLinked (routes ++ route ∷ [])
linked_push routes route may n lt =
    let le : suc n ≤ length routes = omega (arith, lt, length_push routes route) in
    elim (eq-or-lt_of_le le) [
      | inl last ↦ let (p, is, up) = may.follows n last in
          (p, rw last (parent_last routes route ∙ is), above_further routes (route ∷ []) n p up)
      | inr before ↦ let (p, is, up) = may.linked n before in
          (p, parent_further routes (route ∷ []) (suc n) before ∙ is, above_further routes (route ∷ []) n p up)
    ]

-- below a route, after it and some that are below it
record Open (routes : List Route) (top : ℕ) : Type 0 where
  linked : IsLinked routes
  within : top < length routes
  under : (last : ℕ) → suc last ≡ length routes → IsAbove routes last top

own_opens : (routes : List Route) (route : Route) (n : ℕ) → n ≡ length routes → MayFollow routes route.parent → Open (routes ++ route ∷ []) n
own_opens routes route n at may =
    record {
      linked = linked_push routes route may;
      within = omega (arith, at, length_push routes route);
      under = λ last e.
          let same : last ≡ n = omega (arith, at, e, length_push routes route) in
          rw same (Itself n);
    }

mutual
  -- a route and those below it, after those before them
  tree_opens : (whole : Data) (n : ℕ) (parent : Option ℕ) (d : Data) (tree before : List Route) → StatesTree whole n parent d tree → n ≡ length before → MayFollow before parent → Open (before ++ tree) n × (parent_at (before ++ tree) n ≡ parent)
  tree_opens whole _ _ _ _ before (Tree n parent d route children below is of states trees) at may =
      let opened : Open (before ++ route ∷ []) n = own_opens before route n at (rw of may) in
      let has : parent_at (before ++ route ∷ []) n ≡ parent = rw at (parent_last before route ∙ of) in
      let still = trees_open whole (n + 1) n children below (before ++ route ∷ []) trees (omega (arith, at, length_push before route)) opened in
      rw (← append_assoc before (route ∷ []) below) (still, parent_further (before ++ route ∷ []) below n opened.within ∙ has)

  trees_open : (whole : Data) (n top : ℕ) (ds : Items) (trees before : List Route) → StatesTrees whole n top ds trees → n ≡ length before → Open before top → Open (before ++ trees) top
  trees_open whole _ _ _ _ before (NoMore n top) at o = rw append-nil o
  trees_open whole _ _ _ _ before (OneMore n top d ds tree rest first later) at o =
      let (one, has) = tree_opens whole n (Some top) d tree before first at (record { linked = o.linked; follows = λ last is. (top, refl, o.under last is) }) in
      let opened : Open (before ++ tree) top = record { linked = one.linked; within = omega (arith, o.within, length-append before tree); under = λ last is. above_above (before ++ tree) last n top (one.under last is) has } in
      rw (← append_assoc before tree rest) (trees_open whole (n + length tree) top ds rest (before ++ tree) later (omega (arith, at, length-append before tree)) opened)

-- the routes of a whole configuration
pub record IsTree (routes : List Route) : Type 0 where
  pub some : 0 < length routes
  pub root : parent_at routes 0 ≡ None
  pub linked : IsLinked routes

pub walked_tree : (d : Data) (stated : Stated) → is_too_deep d ≡ false → (walked_at d).value ≡ Ok stated → IsTree stated.routes
walked_tree d stated shallow e =
    let (root, is, tree) = (walked_states d stated shallow e).routes in
    let (opened, has) = tree_opens d 0 None root stated.routes [] tree refl (record { linked = λ n lt. absurd (omega (arith, lt)); follows = λ last end. absurd (omega (arith, end)) }) in
    record { some = opened.within; root = has; linked = opened.linked }

-- ---- each parent comes before its children

-- what is above a route has no greater number, if each parent up to the route has a lesser one than its child
above_within : (routes : List Route) (n above : ℕ) → IsAbove routes n above → ((m parent : ℕ) → m ≤ n → parent_at routes m ≡ Some parent → parent < m) → above ≤ n
above_within routes _ _ (Itself n) first = omega arith
above_within routes _ _ (Further n parent above e up) first =
    let less = first n parent (omega arith) e in
    omega (arith, less, above_within routes parent above up (λ m p h. first m p (omega (arith, h, less))))

parent_before : (routes : List Route) → IsTree routes → (most n parent : ℕ) → n < most → parent_at routes n ≡ Some parent → parent < n
parent_before routes tree zero n parent lt e = omega (arith, lt)
parent_before routes tree (suc most) zero parent lt e = absurd (none-some parent (sym tree.root ∙ e))
parent_before routes tree (suc most) (suc n) parent lt e =
    let (p, is, up) = tree.linked n (parent_within routes (suc n) parent e) in
    let same : p ≡ parent = same_Some p parent (sym is ∙ e) in
    let le = above_within routes n p up (λ m q h. parent_before routes tree most m q (omega (arith, h, lt))) in
    omega (arith, same, le)

pub parents_first : (d : Data) (stated : Stated) → is_too_deep d ≡ false → (walked_at d).value ≡ Ok stated → AreParentsFirst (stated_config stated)
parents_first d stated shallow e n parent up = parent_before stated.routes (walked_tree d stated shallow e) (n + 1) n parent (omega arith) up
