use Rattle.std.proofs.Common.{◌≡◌, ◌++◌, drop, map}
use Rattle.std.specs.Map.Iter.{deref_pair}
use Rattle.amr_labels.specs.Map.{entries}
use Rattle.amr_engine.proofs.state.views.alerts.Given as goal

abbrev pub invariant-loop-labels : goal.invariant-loop-labels
invariant-loop-labels l = l.found.items ++ map deref_pair (drop l.labels-index l.labels-items) ≡ entries l.fn.store.state.alerts
