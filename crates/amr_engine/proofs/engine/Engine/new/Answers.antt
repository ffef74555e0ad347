use Rattle.amr_engine.specs.State.Records.{befores}
use Rattle.amr_engine.proofs.PlacedRuns.{start_stays}
use Rattle.amr_engine.proofs.Settling.{no_past}
use Rattle.amr_engine.proofs.engine.Engine.new.Goals as goal

pub invariant_of-result : goal.invariant_of-result
invariant_of-result c = (
  c.new.ensures.current,
  c.new-2.ensures c.new.result.state,
  start_stays c.args.config c.new.result.state (befores c.new.result.records c.new.result.state) c.new.ensures.state (no_past c.new.result c.new.ensures.records),
)
