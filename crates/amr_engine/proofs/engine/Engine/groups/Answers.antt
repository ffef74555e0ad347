use Rattle.std.proofs.Common.{ap, subst}
use Rattle.amr_engine.specs.State.Steps.{Steps}
use Rattle.amr_engine.specs.Placed.{ArePlaced}
use Rattle.amr_engine.proofs.PlacedGroups.{are_listed}
use Rattle.amr_engine.proofs.engine.Engine.groups.Goals as goal

pub returns-clause-members : goal.returns-clause-members
returns-clause-members c = are_listed c.args.self.now.state (subst ArePlaced (ap (λ (v : Steps). v.state) c.self.view_is) c.self.invariant.2.now)
