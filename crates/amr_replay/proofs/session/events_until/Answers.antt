use Rattle.std.proofs.Common.{arith}
use Rattle.std.proofs.lemmas.Bool.Decides.{nat_tests}
use Rattle.amr_replay.proofs.Passed.{until_more}
use Rattle.amr_replay.proofs.session.events_until.Goals as goal

pub returns-then-nanoseconds-clause-count : goal.returns-then-nanoseconds-clause-count
returns-then-nanoseconds-clause-count c =
    let more = until_more c.args.at c.args.script.now.events c.loop-n.n c.event.result.now c.event.ensures in
    grind (arith, nat_tests)

pub loop-n-preserved : goal.loop-n-preserved
loop-n-preserved c =
    let more = until_more c.args.at c.args.script.now.events c.loop-n.n c.event.result.now c.event.ensures in
    grind (arith, nat_tests)
