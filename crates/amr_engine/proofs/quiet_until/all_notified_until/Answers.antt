use Rattle.std.proofs.Common.{◌<◌, arith}
use Rattle.amr_engine.proofs.CachedQuiet.{found_all_notified}
use Rattle.amr_engine.proofs.quiet_until.all_notified_until.Goals as goal

pub returns-in-Some : goal.returns-in-Some
returns-in-Some c =
    let notified = rw c.in-Some.is at c.in_ok-end.ensures in
    let before : c.args.at < c.in-Some.end = omega arith in (
      before,
      found_all_notified c.args.store.now.state c.args.group.now c.args.at c.first_end-until.result c.in-Some.end c.args.members.now c.requires c.first_end-until.ensures.fire notified.0 notified.1,
    )
