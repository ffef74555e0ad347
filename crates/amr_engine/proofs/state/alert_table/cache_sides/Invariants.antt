use Rattle.std.proofs.Common.{◌≡◌}
use Rattle.amr_engine.proofs.state.alert_table.cache_sides.Given as goal

abbrev pub invariant-loop-index : goal.invariant-loop-index
invariant-loop-index l = l.sources ≡ l.fn.sources
