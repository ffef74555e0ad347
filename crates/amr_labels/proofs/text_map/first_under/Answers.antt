use Rattle.std.proofs.Common.{true, false}
use Rattle.amr_labels.proofs.Firsts.{found_from}
use Rattle.amr_labels.proofs.text_map.first_under.Goals as goal

pub returns-then-is_named : goal.returns-then-is_named
returns-then-is_named c = cc (found_from c.args.name.now c.args.pairs.now c.loop-pair.pair-index c.pair-item.result c.loop-pair-test.true true cc)

pub loop-pair-preserved : goal.loop-pair-preserved
loop-pair-preserved c = cc (found_from c.args.name.now c.args.pairs.now c.loop-pair.pair-index c.pair-item.result c.loop-pair-test.true false cc)
