use Rattle.std.proofs.Common.{◌∙◌}
use Rattle.std.proofs.lemmas.Result.{err_from_is_err_and}
use Rattle.amreplay.proofs.commands.conversation.converse.Goals as goal

pub loop-line-preserved : goal.loop-line-preserved
loop-line-preserved g c =
    let (same, bytes, consumed, stands) = c.loop-line.invariant.stands in
    let (bytes', consumed', stands') = (rw (same, c.in-More.is) at c.in_ok-take_turn.ensures.turned) _ _ bytes consumed stands in
    record {
      stands = (c.take_turn.ensures.kept ∙ same, bytes', consumed', stands');
      read = c.in_ok-take_turn.ensures.read ∙ c.loop-line.invariant.read;
      written = c.in_ok-take_turn.ensures.written ∙ c.loop-line.invariant.written;
    }

pub returns-in-Ended-clause-conversed : goal.returns-in-Ended-clause-conversed
returns-in-Ended-clause-conversed g c =
    let (same, bytes, consumed, stands) = c.loop-line.invariant.stands in
    (rw (same, c.in-Ended.is) at c.in_ok-take_turn.ensures.turned) _ _ bytes consumed stands

pub returns-in_err-take_turn-clause-conversed : goal.returns-in_err-take_turn-clause-conversed
returns-in_err-take_turn-clause-conversed g c =
    let p = err_from_is_err_and c.from_residual.result c.from_residual.ensures.1 in
    let (same, bytes, consumed, stands) = c.loop-line.invariant.stands in
    rw (p.1, p.2) ((rw same at c.in_err-take_turn.ensures.turned) _ _ bytes consumed stands)
