use Rattle.std.proofs.lemmas.Result.{err_from_is_err_and}
use Rattle.amreplay.proofs.ProgramLemmas.RunLines.{RunLeaves-unflushed}
use Rattle.amreplay.proofs.program.run.write_run.Goals as goal

pub returns-in_err-flush-clause-left : goal.returns-in_err-flush-clause-left
returns-in_err-flush-clause-left g c =
    let p = err_from_is_err_and c.from_residual.result c.from_residual.ensures.1 in
    rw (p.1, p.2) (RunLeaves-unflushed _ _ _ _ _ _ c.write_events-ended.ensures.left c.flush.ensures.kept)
