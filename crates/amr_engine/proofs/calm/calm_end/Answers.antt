use Rattle.std.proofs.Common.{arith}
use Rattle.amr_engine.proofs.Calming.{calm_if_quiet}
use Rattle.amr_engine.proofs.calm.calm_end.Goals as goal

pub returns-clause-calm : goal.returns-clause-calm
returns-clause-calm c = λ last soon removed.
    let timers = c.timers-timers.result.now in
    calm_if_quiet last c.args.store.now.state timers c.next_number-number-end.ensures.numbering c.timers-timers.ensures removed
    (λ n group timer less. c.loop-number.invariant.quiet last soon n group timer (omega (arith, c.loop-number-test.false, c.next_number-number-end.ensures.next, less)))
