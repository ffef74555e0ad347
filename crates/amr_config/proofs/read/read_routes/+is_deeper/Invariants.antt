use Rattle.std.proofs.Common.{◌≡◌, ◌-◌, drop}
use Rattle.serde_json.specs.View.{view, items_view}
use Rattle.amr_config.specs.Read.RouteParts.{is_deeper}
use Rattle.amr_config.specs.Read.Members.{any_item}
use Rattle.amr_config.proofs.read.read_routes.+is_deeper.Given as goal

abbrev pub decreases-is_deeper : goal.decreases-is_deeper
decreases-is_deeper l = l.left

abbrev pub invariant-loop-item : goal.invariant-loop-item
invariant-loop-item l = any_item (is_deeper (l.left - 1)) (items_view (drop l.item-index l.item-items)) ≡ is_deeper l.left (view l.value)
