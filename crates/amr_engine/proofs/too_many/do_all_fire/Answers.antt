use Rattle.std.proofs.Common.{◌≡◌, ◌≤◌, ◌<◌, ◌+◌, true, length, subst, arith}
use Rattle.amr_engine.specs.Flush.{Members}
use Rattle.amr_engine.specs.Quiet.{all_fire_until}
use Rattle.amr_engine.proofs.Lasting.{some_members}
use Rattle.amr_engine.proofs.CachedQuiet.{fire_sooner}
use Rattle.amr_engine.proofs.too_many.do_all_fire.Goals as goal

pub returns : goal.returns
returns c = λ _.
    let sooner : c.args.at + 1 ≤ c.first_end-end.result = omega arith in
    subst (λ (ms : Members). (0 < length ms) × (all_fire_until (c.args.at + 1) ms ≡ true)) c.requires
    (some_members c.args.members.now c.if-is_empty.ensures, fire_sooner c.first_end-end.result (c.args.at + 1) sooner c.args.members.now c.first_end-end.ensures.fire)
