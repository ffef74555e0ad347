-- What is known of a route when some routes have been seen.
use Rattle.std.specs.Prelude.{◌≡◌, ℕ, ◌<◌, ◌≤◌, Bool, false, not, ◌&&◌, List, map, length, slice_get}
use Rattle.std.specs.Option.{option_map_or}
use Rattle.std.specs.List.{list_all, list_any, filter, range_with_len}
use Rattle.amr_labels.specs.Labels.{LabelSet}
use Rattle.amr_config.specs.declared.routing.Standing.{Standing}
use Rattle.amr_config.specs.Stated.Config.{Config}
use Rattle.amr_config.specs.Routing.{line_of, matches_route, is_cut_off, is_child, route_is}

-- the route and all above it match, and none of them is cut off
unfoldable pub is_open : Config → LabelSet → ℕ → Bool
is_open config labels n = list_all (λ m. matches_route config labels m && not (is_cut_off config labels m)) (line_of config n)

-- a child that matches
abbrev pub takes_from : Config → LabelSet → ℕ → ℕ → Bool
takes_from config labels n child = is_child config n child && matches_route config labels child

-- a child that matches and doesn't have `continue`
abbrev pub closes : Config → LabelSet → ℕ → ℕ → Bool
closes config labels n child = is_child config n child && matches_route config labels child && not (route_is (λ route. route.continues) config child)

-- the standing of the route with this number when the routes below the stage have been seen
unfoldable pub standing_of : Config → LabelSet → ℕ → ℕ → Standing
standing_of config labels stage n = record {
  is_open = is_open config labels n;
  is_taken = is_open config labels n && list_any (takes_from config labels n) (range_with_len 0 stage);
  is_closed = is_open config labels n && list_any (closes config labels n) (range_with_len 0 stage);
}

-- the standings of the routes that have been seen
unfoldable pub standings_at : Config → LabelSet → ℕ → List Standing
standings_at config labels stage = map (standing_of config labels stage) (range_with_len 0 stage)

-- Of the routes, more have been seen now than before, and these are the standings of those.
pub record IsMoreSeen (config : Config) (labels : LabelSet) (before now : ℕ) (standings : List Standing) : Type 0 where
  pub more : before < now
  pub within : now ≤ length config.routes
  pub seen : standings ≡ standings_at config labels now

-- the standing is open, and no child takes the alert
abbrev pub is_chosen_standing : Standing → Bool
is_chosen_standing standing = standing.is_open && not standing.is_taken

-- the numbers below a limit whose standings are chosen
abbrev pub chosen_numbers : List Standing → ℕ → List ℕ
chosen_numbers standings n = filter (λ k. option_map_or is_chosen_standing (slice_get standings k) false) (range_with_len 0 n)

-- these are the numbers below a limit whose standings are chosen, if the standings are those of a label set
abbrev pub AreChosenBy : Config → List Standing → ℕ → List ℕ → Type 0
AreChosenBy config standings limit numbers = (labels : LabelSet) → standings ≡ standings_at config labels (length standings) → numbers ≡ chosen_numbers standings limit
