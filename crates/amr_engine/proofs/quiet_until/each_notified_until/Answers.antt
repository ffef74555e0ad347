use Rattle.std.proofs.Common.{arith}
use Rattle.amr_engine.specs.Flush.{labels_of}
use Rattle.amr_engine.proofs.CachedQuiet.{notified_sooner, all_notified}
use Rattle.amr_engine.proofs.quiet_until.each_notified_until.Goals as goal

pub loop-integration-preserved : goal.loop-integration-preserved
loop-integration-preserved c =
    let s = c.args.store.now.state in
    let firing = labels_of c.args.through.now in
    let found = rw c.in-Some.is at c.in_ok-repeat_of.ensures in
    record {
      within = omega (arith, c.min-until.ensures, c.loop-integration.invariant.within);
      notified = λ end sooner rest. c.loop-integration.invariant.notified end (omega (arith, c.min-until.ensures, sooner))
          (all_notified s c.args.group.now c.args.at firing end _ c.loop-integration.integration-index c.integration-item.result c.loop-integration-test.true c.integration-item.is
          (notified_sooner s c.args.group.now c.args.at firing c.in-Some.repeat end (omega (arith, c.min-until.ensures, sooner)) c.integration-item.result found) rest);
    }
