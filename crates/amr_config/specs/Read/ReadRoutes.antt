-- Reading the routing tree of a configuration, by key in byte order.
use Rattle.std.specs.Prelude.{ℕ, zero, suc, List, [], ◌∷◌, ◌++◌, length, Option, Some, None, Err, false, codes, unwrap_or}
use Rattle.serde_json.specs.Data.{Data}
use Rattle.amr_config.specs.declared.read.error.Refusal.TheVariants.{Other}
use Rattle.amr_config.specs.declared.read.error.Cause.TheVariants.{TooDeep}
use Rattle.amr_config.specs.declared.stated.route.Route.{Route}
use Rattle.amr_config.specs.Read.Paths.{under, item_path}
use Rattle.amr_config.specs.Read.Members.{member_of, optional_member, members_at, text_at, flag_at, span_at, texts_at}
use Rattle.amr_config.specs.Read.Readings.{Reading, plain, give, faulty, ◌>>=◌, items_in_turn}
use Rattle.amr_config.specs.Read.ReadMatchers.{matchers_at}
use Rattle.amr_config.specs.Read.ReadIntervals.{names_at}
use Rattle.amr_config.specs.Read.RouteParts.{grouping_stated, children_at}

-- what a route states itself, key by key
unfoldable pub route_at : Data → List ℕ → Option ℕ → Data → Reading Route
route_at whole path parent d = do
  members ← members_at path d
  active ← optional_member (names_at whole) path (codes "active_time_intervals") d
  continues ← optional_member flag_at path (codes "continue") d
  group_by ← optional_member texts_at path (codes "group_by") d
  group_interval ← optional_member span_at path (codes "group_interval") d
  group_wait ← optional_member span_at path (codes "group_wait") d
  matchers ← matchers_at path (codes "match") (codes "match_re") (codes "matchers") d
  mute ← optional_member (names_at whole) path (codes "mute_time_intervals") d
  receiver ← optional_member text_at path (codes "receiver") d
  repeat_interval ← optional_member span_at path (codes "repeat_interval") d
  give (record { parent = parent; matchers = matchers; continues = unwrap_or continues false; receiver = receiver; group_by = grouping_stated group_by; group_wait = group_wait; group_interval = group_interval; repeat_interval = repeat_interval; active_time_intervals = unwrap_or active []; mute_time_intervals = unwrap_or mute [] })

-- a route with what it states itself, added to the routes before it
unfoldable pub own_into : Data → List ℕ → Option ℕ → Data → List Route → Reading (List Route)
own_into whole path parent d routes = route_at whole path parent d >>= λ route. give (routes ++ route ∷ [])

-- a route and those below it, down to n levels, added to the routes before them
unfoldable pub add_route : Data → ℕ → List ℕ → Option ℕ → Data → List Route → Reading (List Route)
add_route whole zero path parent d routes = plain (Err (Other TooDeep))
add_route whole (suc left) path parent d routes = do
  own ← own_into whole path parent d routes
  children ← children_at path d
  items_in_turn (λ i e so_far. add_route whole left (item_path (under path (codes "routes")) i) (Some (length routes)) e so_far) 0 children own

-- a child route, at its index in the list
abbrev pub child_into : Data → ℕ → List ℕ → ℕ → ℕ → Data → List Route → Reading (List Route)
child_into whole left path parent = λ i d so_far. add_route whole left (item_path (under path (codes "routes")) i) (Some parent) d so_far

abbrev pub tree_from : Data → Option Data → Reading (List Route)
tree_from whole None = faulty (codes "route")
tree_from whole (Some route) = add_route whole 32 (codes "route") None route []

-- the routes of a whole configuration
unfoldable pub routes_at : Data → Reading (List Route)
routes_at d = tree_from d (member_of (codes "route") d)
