use Rattle.amr_engine.specs.Events.{run_of, move_limit}
use Rattle.amr_engine.proofs.Told.{log_is_notified}
use Rattle.amr_engine.proofs.Telling.{flushes_notify}
use Rattle.amr_replay.proofs.laws.flushes_tell.Goals as goal

pub returns : goal.returns
returns c = λ config events event moves after accepted. flushes_notify move_limit (run_of config events) event moves after (log_is_notified config events) accepted
