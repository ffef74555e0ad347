use Rattle.std.proofs.Common.{◌≡◌, ◌++◌, drop, map}
use Rattle.std.specs.Map.Iter.{deref_pair}
use Rattle.amr_engine.specs.State.Seen.{group_seen, groups_of}
use Rattle.amr_engine.proofs.state.views.groups.Given as goal

abbrev pub invariant-loop-route_labels : goal.invariant-loop-route_labels
invariant-loop-route_labels l = l.found.items ++ map (group_seen l.fn.store.state) (map deref_pair (drop l.route_labels-index l.route_labels-items)) ≡ groups_of l.fn.store.state
