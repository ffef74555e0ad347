-- What a route states besides its matchers, and the levels of the routing tree.
use Rattle.std.specs.Prelude.{ℕ, zero, suc, List, [], ◌∷◌, Bool, true, false, Option, Some, None, codes, unwrap_or, if◌then◌else◌}
use Rattle.std.specs.Option.{option_map_or}
use Rattle.std.specs.Ordering.{eq_by_cmp}
use Rattle.serde_json.specs.Data.{Data, Items, no_items}
use Rattle.amr_labels.specs.Labels.{Text, text_cmp}
use Rattle.amr_config.specs.declared.stated.route.Grouping.{Grouping}
use Rattle.amr_config.specs.declared.stated.route.Grouping.TheVariants.{AllLabels, Named}
use Rattle.amr_config.specs.Read.Members.{member_of, items_at, optional_member, any_item, list_in}
use Rattle.amr_config.specs.Read.Readings.{Reading, give, ◌>>=◌}

-- `["..."]`
unfoldable pub is_all : List Text → Bool
is_all [] = false
is_all (name ∷ []) = eq_by_cmp text_cmp name (codes "...")
is_all (name ∷ next ∷ names) = false

-- `["..."]` means all labels
abbrev pub grouping_of : List Text → Grouping
grouping_of names = if is_all names then AllLabels else Named names

abbrev pub grouping_stated : Option (List Text) → Option Grouping
grouping_stated None = None
grouping_stated (Some names) = Some (grouping_of names)

-- the list of child routes, which may be absent
unfoldable pub children_at : List ℕ → Data → Reading Items
children_at path d = optional_member items_at path (codes "routes") d >>= λ found. give (unwrap_or found no_items)

-- ---- levels

-- a route has more than n levels, itself included
unfoldable pub is_deeper : ℕ → Data → Bool
is_deeper zero d = true
is_deeper (suc left) d = any_item (is_deeper left) (list_in (member_of (codes "routes") d))

-- whether the routing tree has more than 32 levels
unfoldable pub is_too_deep : Data → Bool
is_too_deep d = option_map_or (is_deeper 32) (member_of (codes "route") d) false
