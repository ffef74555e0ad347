-- The sides of inhibition rules that a label set is on.
use Rattle.std.specs.Prelude.{List, map}
use Rattle.amr_labels.specs.Labels.{LabelSet}
use Rattle.amr_labels.specs.Matcher.Matchers.{all_hold}
use Rattle.amr_config.specs.declared.stated.rule.InhibitRule.{InhibitRule}
use Rattle.amr_config.specs.declared.stated.rule_sides.RuleMatch.{RuleMatch}

-- whether the labels match the source matchers and the target matchers of the rule
abbrev pub rule_match : LabelSet → InhibitRule → RuleMatch
rule_match labels rule = record { is_source = all_hold rule.source labels; is_target = all_hold rule.target labels }

-- the same of each of these rules
unfoldable pub rule_matches : LabelSet → List InhibitRule → List RuleMatch
rule_matches labels rules = map (rule_match labels) rules
