use Rattle.std.proofs.lemmas.Result.{MatchResult-from_err}
use Rattle.amreplay.proofs.LinesLemmas.Parts.{AppendsBeginning-after, flat_map-around}
use Rattle.amreplay.proofs.lines.checked_writer.write_parts.Goals as goal

pub returns-in_err-write_whole-clause-written : goal.returns-in_err-write_whole-clause-written
returns-in_err-write_whole-clause-written g c =
    MatchResult-from_err c.from_residual.result _ _ c.from_residual.ensures.0
    (λ _. AppendsBeginning-after _ _ _ _ _ _ _ c.loop-part.invariant.written c.in_err-write_whole.ensures.written (flat_map-around (λ part. part.now) c.args.parts.now c.loop-part.part-index _ c.loop-part-test.true))
