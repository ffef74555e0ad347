use Rattle.std.proofs.Common.{◌∙◌}
use Rattle.std.proofs.lemmas.Result.{err_from_is_err_and}
use Rattle.amreplay.proofs.ProgramLemmas.Unflushed.{CheckLeaves-unflushed}
use Rattle.amreplay.proofs.program.check.check_config.Goals as goal

pub returns-in_err-flush-clause-left : goal.returns-in_err-flush-clause-left
returns-in_err-flush-clause-left g c =
    let p = err_from_is_err_and c.from_residual-in_err-flush.result c.from_residual-in_err-flush.ensures.1 in
    rw (p.1, p.2) (CheckLeaves-unflushed _ _ _ _ _ _ c.in_ok-config.ensures (c.as_bytes.ensures.value ∙ c.in_ok-text.ensures) c.in_ok-write_whole.ensures.written c.flush.ensures.kept)
