use Rattle.std.proofs.Common.{rules, sym, subst}
use Rattle.amr_config.specs.Settled.{AreSettled}
use Rattle.amr_config.proofs.config.Config.from_stated.Goals as goal

pub invariant_of-result : goal.invariant_of-result
invariant_of-result c =
    subst AreSettled (sym c.in_ok-new.ensures.ok) (search rules)
