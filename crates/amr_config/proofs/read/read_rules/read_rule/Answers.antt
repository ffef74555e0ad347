use Rattle.std.proofs.Common.{sym, ◌∙◌}
use Rattle.amr_config.specs.Read.ReadRules.{rule_at}
use Rattle.amr_config.proofs.ReadLemmas.Readings.{stops_first, stops_later, stops_past, past_object, stopped}
use Rattle.amr_config.proofs.read.read_rules.read_rule.Goals as goal

pub returns-in_err-source : goal.returns-in_err-source
unfolding rule_at
returns-in_err-source c =
    stopped _ _ _ _ c.from_residual-in_err-source.ensures.1 (past_object _ _ _ _ (sym c.is_object.ensures ∙ c.if-not-is_object.false)
    (stops_past _ _ _ _ c.in_ok-equal.ensures (stops_first _ _ _ c.in_err-source.ensures)))

pub returns-in_err-target : goal.returns-in_err-target
unfolding rule_at
returns-in_err-target c =
    stopped _ _ _ _ c.from_residual-in_err-target.ensures.1 (past_object _ _ _ _ (sym c.is_object.ensures ∙ c.if-not-is_object.false)
    (stops_past _ _ _ _ c.in_ok-equal.ensures (stops_later _ _ _ _ c.in_ok-source.ensures (stops_first _ _ _ c.in_err-target.ensures))))
