use Rattle.std.proofs.Common.{arith, sym, subst}
use Rattle.amr_labels.specs.Labels.{IsLabelSet}
use Rattle.amr_labels.proofs.Proper.{proper}
use Rattle.amr_labels.proofs.labels.Labels.of_pairs.Goals as goal

pub returns-clause-proper : goal.returns-clause-proper
returns-clause-proper c =
    subst IsLabelSet (sym c.in_ok-of_texts.ensures) (proper c.in_ok-last.last c.in_ok-texts.texts c.in_ok-texts.ensures (grind arith))
