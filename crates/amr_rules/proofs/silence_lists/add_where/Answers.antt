use Rattle.std.proofs.Common.{[], true, false, set, ap, ◌∙◌}
use Rattle.amr_rules.proofs.EachPeriods.{one_added}
use Rattle.amr_rules.proofs.silence_lists.add_where.Goals as goal
use Rattle.amr_rules.proofs.silence_lists.add_where.Goals.{then-is_match+in_ok-push, else-is_match}

pub loop-index-preserved : goal.loop-index-preserved
loop-index-preserved c =
    let each = c.loop-index.each in
    let index = c.loop-index.index in
    let added = one_added c.args.period.now c.args.matches.now c.args.each.now each index in
    elim c.if-is_match.branch [
      | then-is_match+in_ok-push w ↦
          w.each-is ∙ ap (set each index) w.in_ok-push.ensures.ok
          ∙ added true w.index-each-index.result c.loop-index-test.true c.requires c.loop-index.invariant w.if-is_match.true
      | else-is_match w ↦ w.each-is ∙ added false [] c.loop-index-test.true c.requires c.loop-index.invariant w.if-is_match.false
    ]
