use Rattle.std.proofs.Common.{ap, ◌+◌}
use Rattle.amr_engine.proofs.CachedQuiet.{still_now}
use Rattle.amr_engine.proofs.flush.still.Goals as goal

pub returns-then-not-allows_scan-clause-still : goal.returns-then-not-allows_scan-clause-still
returns-then-not-allows_scan-clause-still c = still_now c.args.at (c.nanoseconds.result + 1) (ap (λ n. n + 1) c.nanoseconds.ensures.value) c.args.store.now.state
