use Rattle.std.proofs.Common.{ap, subst}
use Rattle.amr_engine.specs.State.Steps.{Steps}
use Rattle.amr_engine.specs.Placed.{ArePlaced}
use Rattle.amr_engine.proofs.PlacedRuns.{has_timers}
use Rattle.amr_engine.proofs.engine.Engine.explain.Goals as goal

pub returns-clause-timed : goal.returns-clause-timed
returns-clause-timed c = has_timers c.args.self.now.state c.args.labels.now (subst ArePlaced (ap (λ (v : Steps). v.state) c.self.view_is) c.self.invariant.2.now)
