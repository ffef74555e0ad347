use Rattle.std.proofs.Common.{take}
use Rattle.amr_config.specs.RuleNames.{AreNamesOf}
use Rattle.amr_config.proofs.rule_names.rule_names.Given as goal

abbrev pub invariant-loop-rule : goal.invariant-loop-rule
invariant-loop-rule l = AreNamesOf (take l.rule-index l.rules) l.names.items
