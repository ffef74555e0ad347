use Rattle.std.proofs.Common.{◌-◌, inl}
use Rattle.serde_json.specs.View.{view, items_view}
use Rattle.amr_config.specs.Read.Paths.{path_text}
use Rattle.amr_config.specs.Read.ReadRoutes.{child_into}
use Rattle.amr_config.proofs.ReadLemmas.Levels.{at_zero, own_stops, children_stop, begins}
use Rattle.amr_config.proofs.ReadLemmas.Turns.{item_ends, item_stops}
use Rattle.amr_config.proofs.ReadLemmas.Readings.{stopped_into}
use Rattle.amr_config.proofs.read.read_routes.+add_route.Goals as goal

pub returns-then-left-eq0 : goal.returns-then-left-eq0
returns-then-left-eq0 t c = inl (at_zero (view c.args.whole.now.value.now) c.args.left (path_text c.args.path.now) c.args.parent (view c.args.value.now) c.args.routes.now c.if-left-eq0.true)

pub returns-in_err-add_own : goal.returns-in_err-add_own
returns-in_err-add_own t c =
    stopped_into _ _ _ _ _ c.from_residual.ensures.1 (own_stops c.in_err-add_own.field-0.0 (view c.args.whole.now.value.now) c.args.left (path_text c.args.path.now) c.args.parent (view c.args.value.now) c.args.routes.now c.if-left-eq0.false c.in_err-add_own.ensures)

pub returns-in_err-children : goal.returns-in_err-children
returns-in_err-children t c =
    stopped_into _ _ _ _ _ c.from_residual-in_err-children.ensures.1 (children_stop c.in_err-children.field-0.0 (view c.args.whole.now.value.now) c.args.left (path_text c.args.path.now) c.args.parent (view c.args.value.now) c.args.routes.now c.add_own.new.routes c.if-left-eq0.false c.in_ok-add_own.ensures c.in_err-children.ensures)

pub loop-i-init : goal.loop-i-init
loop-i-init t c =
    let one = begins (view c.args.whole.now.value.now) c.args.left (path_text c.args.path.now) c.args.parent (view c.args.value.now) c.args.routes.now c.add_own.new.routes (items_view c.in_ok-children.children.now) c.if-left-eq0.false c.in_ok-add_own.ensures c.in_ok-children.ensures in
    rw c.len-index.ensures one

pub loop-i-preserved : goal.loop-i-preserved
loop-i-preserved t c =
    item_ends (child_into (view c.args.whole.now.value.now) (c.args.left - 1) (path_text c.args.path.now) c.len-index.result) c.in_ok-children.children.now c.loop-i.i c.index-children-i.result c.loop-i.routes _ _ c.loop-i-test.true c.index-children-i.is c.in_ok-add_route.ensures c.loop-i.invariant

pub returns-in_err-add_route : goal.returns-in_err-add_route
returns-in_err-add_route t c =
    stopped_into _ _ _ _ _ c.from_residual-in_err-add_route.ensures.1 (item_stops (child_into (view c.args.whole.now.value.now) (c.args.left - 1) (path_text c.args.path.now) c.len-index.result) c.in_ok-children.children.now c.loop-i.i c.index-children-i.result c.loop-i.routes c.in_err-add_route.field-0.0 _ c.loop-i-test.true c.index-children-i.is c.in_err-add_route.ensures c.loop-i.invariant)
