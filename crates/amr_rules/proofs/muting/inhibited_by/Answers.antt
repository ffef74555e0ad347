use Rattle.std.proofs.Common.{length, sym, ap, ◌∙◌, arith}
use Rattle.std.proofs.lemmas.List.{get_or-map, length-map}
use Rattle.amr_config.specs.Stated.RuleMatches.{rule_match, rule_matches}
use Rattle.amr_rules.proofs.muting.inhibited_by.Goals as goal

pub bounds-matched-index : goal.bounds-matched-index
unfolding rule_matches
bounds-matched-index g c = omega (arith, c.loop-index-test.true, ap length c.requires ∙ length-map c.args.rules.now (rule_match c.args.target.now))

pub inhibitor_by-requires : goal.inhibitor_by-requires
unfolding rule_matches
inhibitor_by-requires g c =
    rw (c.requires, get_or-map (rule_match c.args.target.now) c.args.rules.now c.loop-index.index c.index-rules-index.result _ c.loop-index-test.true)
    (ap (rule_match c.args.target.now) (sym c.index-rules-index.is))
