use Rattle.std.proofs.Common.{◌∷◌, [], ◌++◌}
use Rattle.std.proofs.lemmas.Result.{MatchResult-from_err}
use Rattle.amreplay.proofs.CommandsLemmas.Talks.{Progress-more, Progress-answered, StopsShort-answered, StopsShort-more}
use Rattle.amreplay.proofs.commands.input.take_byte.Goals as goal

pub returns-then-b-ne10-clause-heard : goal.returns-then-b-ne10-clause-heard
returns-then-b-ne10-clause-heard g c = λ start before rest t h.
    (rest ++ c.args.b ∷ [], Progress-more _ start _ before _ rest c.args.b c.if-b-ne10.true t, c.push.ensures rest h)

pub returns-in_err-answer_line-clause-heard : goal.returns-in_err-answer_line-clause-heard
returns-in_err-answer_line-clause-heard g c = λ start before rest t h.
    let a = c.in_err-answer_line.ensures.answered rest h in
    let stops = StopsShort-more _ start _ before [] (10 ∷ []) (StopsShort-answered _ start _ _ before _ rest a.line_outcome t a.may_be a.did) in
    MatchResult-from_err c.from_residual.result _ _ c.from_residual.ensures.0 (λ _. rw c.if-b-ne10.false ([], stops))

pub returns-clause-heard : goal.returns-clause-heard
returns-clause-heard g c = λ start before rest t h.
    let a = c.in_ok-answer_line.ensures.answered rest h in
    ([], rw c.if-b-ne10.false (Progress-answered _ start _ _ before _ rest a.line_outcome t a.may_be _ a.did), c.clear.ensures.empty)
