-- Where the routes below each route end. Routes are numbered in preorder, so they come right after it.
use Rattle.std.specs.Prelude.{◌≡◌, ℕ, ◌<◌, ◌≤◌, List, length, get_or, Option, None, slice_get, IsSomeAnd}
use Rattle.std.specs.Option.{option_map_or}
use Rattle.amr_config.specs.declared.stated.route.Route.{Route}

-- the parent of the route with this number, among these routes
abbrev pub parent_among : List Route → ℕ → Option ℕ
parent_among routes n = option_map_or (λ route. route.parent) (slice_get routes n) None

-- route m has a parent, which is route n or comes after it
abbrev pub HasParentFrom : List Route → ℕ → ℕ → Type 0
HasParentFrom routes n m = IsSomeAnd (parent_among routes m) (λ parent. n ≤ parent)

-- the routes below route n are those after it and before this number
pub record IsSubtreeEnd (routes : List Route) (n stop : ℕ) : Type 0 where
  pub after : n < stop
  pub within : stop ≤ length routes
  pub inside : (m : ℕ) → n < m → m < stop → HasParentFrom routes n m
  pub outside : HasParentFrom routes n stop → ⊥

-- what is said of each route is where those below it end
pub record AreSubtreeEnds (routes : List Route) (ends : List ℕ) : Type 0 where
  pub each : (n : ℕ) → n < length routes → IsSubtreeEnd routes n (get_or ends n 0)
  pub all : length ends ≡ length routes
