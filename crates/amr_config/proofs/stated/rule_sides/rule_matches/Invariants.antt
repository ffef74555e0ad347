use Rattle.std.proofs.Common.{◌≡◌, map, ◌++◌, drop}
use Rattle.amr_config.specs.Stated.RuleMatches.{rule_match, rule_matches}
use Rattle.amr_config.proofs.stated.rule_sides.rule_matches.Given as goal

abbrev pub invariant-loop-rule : goal.invariant-loop-rule
invariant-loop-rule l =
    l.found ++ map (rule_match l.labels) (drop l.rule-index l.rules) ≡ rule_matches l.labels l.rules
