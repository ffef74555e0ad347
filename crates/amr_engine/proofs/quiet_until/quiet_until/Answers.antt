use Rattle.std.proofs.Common.{◌≡◌, ◌<◌, true, arith}
use Rattle.amr_engine.specs.Quiet.{is_untimed}
use Rattle.amr_engine.proofs.CachedQuiet.{found_quiet}
use Rattle.amr_engine.proofs.quiet_until.quiet_until.Goals as goal

pub returns-in-Some : goal.returns-in-Some
returns-in-Some c =
    let notified = rw c.in-Some.is at c.in_ok-end.ensures in
    let untimed : is_untimed c.args.store.now.state.config c.args.group.now.route ≡ true = cc in
    let before : c.args.at < c.in-Some.end = omega arith in (
      before,
      found_quiet c.args.store.now.state c.args.group.now c.args.at c.args.until c.first_end-until.result c.in-Some.end c.args.members.now c.args.through.now c.requires.members c.requires.through untimed c.requires.still
          c.first_end-until.ensures.within c.first_end-until.ensures.fire notified.0 notified.1,
    )
