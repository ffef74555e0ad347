-- What is true of every configuration that was read.
use Rattle.std.specs.Prelude.{◌≡◌, ℕ, ◌+◌, Bool, true, not, ◌&&◌, ◌<◌, List, [], ◌∷◌, map, length, Option, Some, None, slice_get}
use Rattle.std.specs.Option.{option_map_or}
use Rattle.std.specs.List.{list_all, list_any, Contains}
use Rattle.std.specs.Ordering.{eq_by_cmp}
use Rattle.amr_labels.specs.Labels.{Text, text_cmp}
use Rattle.amr_config.specs.Read.Order.{are_in_order}
use Rattle.amr_config.specs.Stated.Config.{Config}
use Rattle.amr_config.specs.Routing.{parent_of, line_of}

-- the route's own receiver
abbrev pub stated_receiver : Config → ℕ → Option Text
stated_receiver config n = option_map_or (λ route. route.receiver) (slice_get config.routes n) None

abbrev pub is_receiver : Config → Text → Bool
is_receiver config name = list_any (λ receiver. eq_by_cmp text_cmp receiver.name name) config.receivers

-- no text is in the list twice
abbrev pub are_different : List Text → Bool
are_different [] = true
are_different (text ∷ texts) = not (list_any (eq_by_cmp text_cmp text) texts) && are_different texts

-- the parent of each route but the root is the route just before it, or a route above that one
abbrev pub IsPreorder : Config → Type 0
IsPreorder config = (n parent : ℕ) → parent_of config (n + 1) ≡ Some parent → Contains (line_of config n) parent

pub record IsConfig (config : Config) : Type 0 where
  -- the first route is the root
  pub root : parent_of config 0 ≡ None
  pub root_receiver : (name : Text) × (stated_receiver config 0 ≡ Some name)
  -- every other route has a parent before it
  pub parents : (n : ℕ) → 0 < n → n < length config.routes → (parent : ℕ) × (parent_of config n ≡ Some parent) × (parent < n)
  pub known_receivers : (n : ℕ) (name : Text) → stated_receiver config n ≡ Some name → is_receiver config name ≡ true
  pub different_receivers : are_different (map (λ receiver. receiver.name) config.receivers) ≡ true
  pub integrations : list_all (λ receiver. are_in_order receiver.integrations) config.receivers ≡ true
