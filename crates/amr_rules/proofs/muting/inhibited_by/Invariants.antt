use Rattle.std.proofs.Common.{◌≡◌, drop}
use Rattle.amr_rules.specs.Muting.{inhibition_from}
use Rattle.amr_rules.proofs.muting.inhibited_by.Given as goal

-- the rules that are left decide
abbrev pub invariant-loop-index : goal.invariant-loop-index
invariant-loop-index g l = inhibition_from 0 l.now l.target (g.A.AlertStore.alerts l.alerts) l.rules ≡ inhibition_from l.index l.now l.target (g.A.AlertStore.alerts l.alerts) (drop l.index l.rules)
