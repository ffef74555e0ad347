-- The settings of a route from its own and its parent's are those that it has.
use Rattle.std.proofs.Common.{◌≡◌, ℕ, ◌+◌, ◌<◌, List, [], ◌∷◌, ◌++◌, length, get_or, map, Option, Some, None, refl, sym, ap, ◌∙◌, arith, option_and_then, option_map}
use Rattle.std.specs.Option.{option_map_or, option_or}
use Rattle.std.specs.List.{slice_get, range_with_len}
use Rattle.std.proofs.lemmas.Option.{slice_get-get_or}
use Rattle.std.proofs.lemmas.List.{reverse-append}
use Rattle.std.proofs.lemmas.List.FromFn.{length-map-range_with_len, get_or-map-range_with_len, map-range_with_len_more}
use Rattle.amr_config.specs.declared.stated.route.Route.{Route}
use Rattle.amr_config.specs.declared.settings.Settings.{Settings}
use Rattle.amr_config.specs.Stated.Config.{Config}
use Rattle.amr_config.specs.Routing.{parent_of, line_of, inherited_value, receiver_name_of, path_of, sorted_matchers}
use Rattle.amr_config.specs.Receivers.{receiver_parent}
use Rattle.amr_config.specs.Settled.{settings_of, settings_of_all, settled_to, settled_under, AreParentsFirst}
use Rattle.amr_config.proofs.Lines.{line_of-root, line_of-child}

module _ (config : Config) (first : AreParentsFirst config) (n : ℕ) (route : Route) (here : slice_get config.routes n ≡ Some route) where
  inherited : {X : Type 0} (field : Route → Option X) (above : Option ℕ) → parent_of config n ≡ above → inherited_value field config n ≡ option_or (field route) (option_map_or (inherited_value field config) above None)
  unfolding inherited_value
  inherited field None e = rw (line_of-root config first n e, here)
  inherited field (Some parent) e = rw (line_of-child config first n parent e, here)

  pub path_at : (above : Option ℕ) → parent_of config n ≡ above → path_of config n ≡ option_map_or (path_of config) above [] ++ sorted_matchers route.matchers ∷ []
  unfolding path_of
  path_at None e = rw (line_of-root config first n e, here)
  path_at (Some parent) e =
      rw (line_of-child config first n parent e) (reverse-append (option_map_or (λ (route : Route). sorted_matchers route.matchers) (slice_get config.routes n) [] ∷ []) (map (λ m. option_map_or (λ (route : Route). sorted_matchers route.matchers) (slice_get config.routes m) []) (line_of config parent)) ∙ rw here refl)

  own_parent : route.parent ≡ parent_of config n
  own_parent = rw here

  -- a route that inherits its receiver comes after its parent and has its parent's
  pub heir : (parent : ℕ) → receiver_parent route ≡ Some parent → (parent < n) × (receiver_name_of config parent ≡ receiver_name_of config n)
  heir parent e =
      let up : parent_of config n ≡ Some parent = grind (arith, own_parent) in
      (first n parent up, grind (arith, inherited (λ r. r.receiver) (Some parent) up))

  settings_under : (above : Option ℕ) → parent_of config n ≡ above → settled_under route (option_map (settings_of config) above) ≡ settings_of config n
  unfolding settled_under settings_of
  settings_under above e =
      grind (arith, here, own_parent, path_at above e, inherited (λ r. r.receiver) above e, inherited (λ r. r.group_by) above e, inherited (λ r. r.group_wait) above e, inherited (λ r. r.group_interval) above e, inherited (λ r. r.repeat_interval) above e)

  found_above : (parent : ℕ) → parent < n → slice_get (settled_to config n) parent ≡ Some (settings_of config parent)
  unfolding settled_to
  found_above parent lt =
      grind (arith, slice_get-get_or (map (settings_of config) (range_with_len 0 n)) parent (settings_of config parent), length-map-range_with_len, get_or-map-range_with_len)

  settings_by : (o : Option ℕ) → parent_of config n ≡ o → settled_under route (option_and_then (slice_get (settled_to config n)) o) ≡ settings_of config n
  settings_by None e = settings_under None e
  settings_by (Some parent) e = ap (settled_under route) (found_above parent (first n parent e)) ∙ settings_under (Some parent) e

pub settled_more : (config : Config) → AreParentsFirst config → (n : ℕ) (route : Route) (above : Option Settings) (made : Settings) (so_far new : List Settings) → n < length config.routes → route ≡ get_or config.routes n route → so_far ≡ settled_to config n → above ≡ option_and_then (slice_get so_far) route.parent → made ≡ settled_under route above → new ≡ so_far ++ made ∷ [] → new ≡ settled_to config (n + 1)
unfolding settled_to
settled_more config first n route above made so_far new lt is sf ab md nw =
    let here : slice_get config.routes n ≡ Some route = slice_get-get_or config.routes n route lt ∙ ap (λ x. Some x) (sym is) in
    grind (arith, settings_by config first n route here route.parent (sym (own_parent config first n route here)), map-range_with_len_more (settings_of config) 0 n n)

pub settled_all : (config : Config) (n : ℕ) → n ≡ length config.routes → settled_to config n ≡ settings_of_all config
unfolding settled_to settings_of_all
settled_all config n e = ap (λ k. map (settings_of config) (range_with_len 0 k)) e
