use Rattle.amr_config.specs.Read.Paths.{path_text}
use Rattle.amr_config.specs.Read.ReadRules.{rule_into}
use Rattle.amr_config.proofs.ReadLemmas.Readings.{stopped}
use Rattle.amr_config.proofs.ReadLemmas.Turns.{item_ends, item_stops}
use Rattle.amr_config.proofs.read.read_rules.rules.Goals as goal

pub loop-index-preserved : goal.loop-index-preserved
loop-index-preserved c =
    item_ends (rule_into (path_text c.args.path.now)) c.in_ok-items.items.now c.loop-index.index c.index-items-index.result c.loop-index.rules _ _ c.loop-index-test.true c.index-items-index.is c.in_ok-add_rule.ensures c.loop-index.invariant

pub returns-in_err-add_rule : goal.returns-in_err-add_rule
returns-in_err-add_rule c =
    stopped _ _ _ _ c.from_residual-in_err-add_rule.ensures.1 (item_stops (rule_into (path_text c.args.path.now)) c.in_ok-items.items.now c.loop-index.index c.index-items-index.result c.loop-index.rules c.in_err-add_rule.field-0.0 _ c.loop-index-test.true c.index-items-index.is c.in_err-add_rule.ensures c.loop-index.invariant)
