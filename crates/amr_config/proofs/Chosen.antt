-- The walk through the routes, one after another, finds those that the rule chooses.
use Rattle.std.proofs.Common.{refl, ◌≡◌, ℕ, ◌+◌, ◌<◌, ◌≤◌, Bool, true, false, not, cond, List, [], ◌∷◌, ◌++◌, length, get_or, set, map, Some, None, sym, ap, ◌∙◌, arith, ◌⊎◌, ◌&&◌, slice_get}
use Rattle.std.specs.List.{list_any, range_with_len}
use Rattle.std.specs.Option.{option_map_or}
use Rattle.std.proofs.lemmas.Grind.{common_steps}
use Rattle.std.proofs.Math.Bool.{and-false}
use Rattle.std.proofs.lemmas.List.{same_lists}
use Rattle.std.proofs.lemmas.List.Elements.{filter-append}
use Rattle.std.proofs.lemmas.Option.{slice_get-get_or, slice_get_cases}
use Rattle.std.proofs.lemmas.List.FromFn.{length-map-range_with_len, get_or-map-range_with_len, map-range_with_len_more}
use Rattle.amr_labels.specs.Labels.{LabelSet}
use Rattle.amr_labels.specs.Matcher.Matchers.{all_hold}
use Rattle.amr_config.specs.declared.routing.Standing.{Standing}
use Rattle.amr_config.specs.Stated.Config.{Config}
use Rattle.amr_config.specs.Routing.{parent_of, matches_route, is_child, is_cut_off, is_chosen, route_is, chosen_routes}
use Rattle.amr_config.specs.declared.settings.Settings.{Settings}
use Rattle.amr_config.specs.Settled.{AreParentsFirst, settings_of}
use Rattle.amr_config.specs.Standings.{is_open, takes_from, closes, standing_of, standings_at, is_chosen_standing, chosen_numbers}
use Rattle.amr_config.proofs.Lines.{line_of-root, line_of-child}
use Rattle.amr_config.proofs.Ranges.{any_below, any_none, any_more, any_wider, map_same, filter_same, range_more}

abbrev pub standing : Bool → Bool → Bool → Standing
standing reached taken closed = record { is_open = reached; is_taken = taken; is_closed = closed }

module _ (config : Config) (labels : LabelSet) (first : AreParentsFirst config) where
  cut_root : (n : ℕ) → parent_of config n ≡ None → is_cut_off config labels n ≡ false
  cut_root n e = any_none _ 0 (length config.routes) (λ m l h. grind (arith, and-false))

  pub cut_child : (n parent : ℕ) → n ≤ length config.routes → parent_of config n ≡ Some parent → is_cut_off config labels n ≡ list_any (closes config labels parent) (range_with_len 0 n)
  cut_child n parent le e =
      any_below _ (closes config labels parent) 0 n (length config.routes) le (λ m l h. grind arith) (λ m h. grind arith)

  pub open_root : (n : ℕ) → parent_of config n ≡ None → is_open config labels n ≡ matches_route config labels n
  unfolding is_open
  open_root n e = grind (arith, line_of-root config first n, cut_root n)

  pub open_child : (n parent : ℕ) → parent_of config n ≡ Some parent → is_open config labels n ≡ ((matches_route config labels n && not (is_cut_off config labels n)) && is_open config labels parent)
  unfolding is_open
  open_child n parent e = rw (line_of-child config first n parent e)

  -- a route that takes and closes nothing doesn't change a standing
  standing_stays : (n q : ℕ) → takes_from config labels q n ≡ false → standing_of config labels (n + 1) q ≡ standing_of config labels n q
  unfolding standing_of
  standing_stays n q t = grind (arith, any_more (takes_from config labels q) n, any_more (closes config labels q) n)

  -- a route has no child among those up to itself
  fresh : (n : ℕ) → standing_of config labels (n + 1) n ≡ standing (is_open config labels n) false false
  unfolding standing_of
  fresh n =
      let none : (m : ℕ) → m < n + 1 → is_child config n m ≡ false = λ m h. grind (arith, first m) in
      grind (arith, any_none (takes_from config labels n) 0 (n + 1) (λ m l h. grind (arith, none m)), any_none (closes config labels n) 0 (n + 1) (λ m l h. grind (arith, none m)))

  -- standings that don't change, and that of the route itself
  more : (n : ℕ) (b : Bool) → is_open config labels n ≡ b → (standings : List Standing) → standings ≡ map (standing_of config labels (n + 1)) (range_with_len 0 n) → standings ++ standing b false false ∷ [] ≡ standings_at config labels (n + 1)
  unfolding standings_at
  more n b o standings e = grind (arith, fresh n, map-range_with_len_more (standing_of config labels (n + 1)) 0 n n)

  all_stay : (n : ℕ) (b : Bool) → is_open config labels n ≡ b → ((q : ℕ) → standing_of config labels (n + 1) q ≡ standing_of config labels n q) → standings_at config labels n ++ standing b false false ∷ [] ≡ standings_at config labels (n + 1)
  unfolding standings_at
  all_stay n b o stay =
      more n b o (standings_at config labels n) (map_same (standing_of config labels n) (standing_of config labels (n + 1)) 0 n (λ q l h. sym (stay q)))

  -- a route without a parent
  pub root_step : (n : ℕ) (b : Bool) → parent_of config n ≡ None → b ≡ matches_route config labels n → standings_at config labels n ++ standing b false false ∷ [] ≡ standings_at config labels (n + 1)
  root_step n b e m = all_stay n b (open_root n e ∙ sym m) (λ q. standing_stays n q (grind arith))

  opens : (n parent : ℕ) → n ≤ length config.routes → parent_of config n ≡ Some parent → (m : Standing) → m ≡ standing_of config labels n parent → is_open config labels n ≡ (matches_route config labels n && m.is_open && not m.is_closed)
  unfolding standing_of
  opens n parent le e m same = grind (arith, open_child n parent, cut_child n parent)

  pub shut_open : (n parent : ℕ) → n ≤ length config.routes → parent_of config n ≡ Some parent → (m : Standing) → m ≡ standing_of config labels n parent → (m.is_open ≡ false) ⊎ (m.is_closed ≡ true) → is_open config labels n ≡ false
  shut_open n parent le e m same shut = grind (arith, opens n parent le e m same)

  -- a route that isn't open changes no standing
  pub shut_step : (n parent : ℕ) → n ≤ length config.routes → parent_of config n ≡ Some parent → (m : Standing) → m ≡ standing_of config labels n parent → (m.is_open ≡ false) ⊎ (m.is_closed ≡ true) → standings_at config labels n ++ standing false false false ∷ [] ≡ standings_at config labels (n + 1)
  unfolding standing_of
  shut_step n parent le e m same shut =
      all_stay n false (shut_open n parent le e m same shut) (λ q.
      grind (arith, any_more (takes_from config labels q) n, any_more (closes config labels q) n, any_wider (closes config labels q) (takes_from config labels q) 0 n (λ k h. grind arith)))

  -- a route that doesn't match changes no standing
  pub unmatched_step : (n parent : ℕ) → parent_of config n ≡ Some parent → matches_route config labels n ≡ false → standings_at config labels n ++ standing false false false ∷ [] ≡ standings_at config labels (n + 1)
  unmatched_step n parent e m = all_stay n false (grind (arith, open_child n parent)) (λ q. standing_stays n q (grind arith))

  taken_at : (n parent q : ℕ) → parent_of config n ≡ Some parent → (standing_of config labels n parent).is_open ≡ true → (standing_of config labels n parent).is_closed ≡ false → matches_route config labels n ≡ true → (d : Standing) → q < n → get_or (set (map (standing_of config labels n) (range_with_len 0 n)) parent (standing true true (not (route_is (λ route. route.continues) config n)))) q d ≡ standing_of config labels (n + 1) q
  unfolding standing_of
  taken_at n parent q e o cl mt d lt =
      grind (arith, common_steps, any_more (takes_from config labels q) n, any_more (closes config labels q) n, get_or-map-range_with_len, length-map-range_with_len)

  -- a route that matches below an open one changes its parent's standing
  pub taken_step : (n parent : ℕ) → n ≤ length config.routes → parent_of config n ≡ Some parent → (standing_of config labels n parent).is_open ≡ true → (standing_of config labels n parent).is_closed ≡ false → matches_route config labels n ≡ true → set (standings_at config labels n) parent (standing true true (not (route_is (λ route. route.continues) config n))) ++ standing true false false ∷ [] ≡ standings_at config labels (n + 1)
  unfolding standings_at
  taken_step n parent le e o cl mt =
      more n true (grind (arith, opens n parent le e (standing_of config labels n parent) refl)) (set (standings_at config labels n) parent (standing true true (not (route_is (λ route. route.continues) config n))))
      (same_lists _ _ (grind (arith, common_steps, length-map-range_with_len)) (λ q d h. grind (arith, common_steps, taken_at n parent q e o cl mt d, get_or-map-range_with_len, length-map-range_with_len)))

module _ (config : Config) (labels : LabelSet) where
  -- the routes with chosen standings at the end are those that the rule chooses
  pub chosen_from_standings : (standings : List Standing) → standings ≡ standings_at config labels (length config.routes) → chosen_numbers standings (length standings) ≡ chosen_routes config labels
  unfolding standings_at chosen_routes standing_of is_open
  chosen_from_standings standings e =
      let n : ℕ = length config.routes in
      let len : length standings ≡ n = ap length e ∙ length-map-range_with_len (standing_of config labels n) 0 n in
      rw len (filter_same _ (is_chosen config labels) 0 n (λ k l h.
      grind (arith, slice_get-get_or standings k (standing_of config labels n k), get_or-map-range_with_len)))

pub chosen_more_at : (standings : List Standing) (n : ℕ) (b : Bool) → option_map_or is_chosen_standing (slice_get standings n) false ≡ b → chosen_numbers standings (n + 1) ≡ chosen_numbers standings n ++ cond b (n ∷ []) []
chosen_more_at standings n b e = grind (arith, range_more n, filter-append)

-- one more standing
pub chosen_more : (standings : List Standing) (n : ℕ) (d : Standing) (b : Bool) → n < length standings → b ≡ is_chosen_standing (get_or standings n d) → chosen_numbers standings (n + 1) ≡ chosen_numbers standings n ++ cond b (n ∷ []) []
chosen_more standings n d b h e = chosen_more_at standings n b (grind (arith, slice_get-get_or standings n d))

-- the matchers of a route's settings are its own
pub matches_is : (config : Config) (labels : LabelSet) (n : ℕ) (b : Bool) (s : Settings) → n < length config.routes → s ≡ settings_of config n → b ≡ all_hold s.matchers labels → b ≡ matches_route config labels n
unfolding settings_of
matches_is config labels n b s h is e =
    let found = (slice_get_cases config.routes n).1 in
    grind arith

pub found_standing : (config : Config) (labels : LabelSet) (n parent : ℕ) (d : Standing) → parent < n → get_or (standings_at config labels n) parent d ≡ standing_of config labels n parent
unfolding standings_at
found_standing config labels n parent d lt = grind (arith, get_or-map-range_with_len)

pub length-standings_at : (config : Config) (labels : LabelSet) (n : ℕ) → length (standings_at config labels n) ≡ n
unfolding standings_at
length-standings_at config labels n = length-map-range_with_len (standing_of config labels n) 0 n
