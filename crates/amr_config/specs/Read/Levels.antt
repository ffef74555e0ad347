-- The levels of the routing tree.
use Rattle.std.specs.Prelude.{◌≡◌, ◌≤◌, ℕ, ◌+◌, Some, codes}
use Rattle.serde_json.specs.Data.{Data, Items, array}
use Rattle.serde_json.specs.Find.{get_item}
use Rattle.amr_config.specs.Read.Members.{member_of}

-- The value under the key `route` is the root, at level 1. The items under the key `routes` of a
-- route are routes, one level below it.
pub data IsAtLevel (whole : Data) : Data → ℕ → Type 0 where
  Root : (root : Data) → member_of (codes "route") whole ≡ Some root → IsAtLevel whole root 1
  Below : (above : Data) (list : Items) (index : ℕ) (route : Data) (level : ℕ) → IsAtLevel whole above level → member_of (codes "routes") above ≡ Some (array list) → get_item index list ≡ Some route → IsAtLevel whole route (level + 1)

-- some route is at level 33 or deeper
abbrev pub HasDeepRoute : Data → Type 0
HasDeepRoute whole = (route : Data) × (level : ℕ) × IsAtLevel whole route level × (33 ≤ level)
