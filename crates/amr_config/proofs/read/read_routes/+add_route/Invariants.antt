use Rattle.std.proofs.Common.{◌-◌, drop}
use Rattle.serde_json.specs.View.{view, items_view}
use Rattle.amr_config.specs.Read.Paths.{path_text}
use Rattle.amr_config.specs.Read.Readings.{items_in_turn}
use Rattle.amr_config.specs.Read.ReadRoutes.{add_route, child_into}
use Rattle.amr_config.proofs.ReadLemmas.Turns.{Ends}
use Rattle.amr_config.proofs.read.read_routes.+add_route.Given as goal

abbrev pub decreases-add_route : goal.decreases-add_route
decreases-add_route l = l.left

abbrev pub invariant-loop-i : goal.invariant-loop-i
invariant-loop-i l = Ends (items_in_turn (child_into (view l.whole.value.now) (l.left - 1) (path_text l.path) l.index) l.i (items_view (drop l.i l.children)) l.routes) (add_route (view l.whole.value.now) l.left (path_text l.path) l.fn.parent (view l.value) l.fn.routes)
