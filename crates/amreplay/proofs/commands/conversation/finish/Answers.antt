use Rattle.std.proofs.lemmas.Result.{MatchResult-weaker}
use Rattle.amreplay.proofs.CommandsLemmas.Talks.{Printed-answered, StopsShort-answered}
use Rattle.amreplay.proofs.commands.conversation.finish.Goals as goal

pub returns-clause-printed : goal.returns-clause-printed
returns-clause-printed g c = λ start bytes stands.
    let (rest, t, holds) = stands in
    let a = c.answer_line.ensures.answered rest holds in
    MatchResult-weaker c.answer_line.result a.did
    (λ _ d. Printed-answered _ start _ _ bytes _ rest a.line_outcome t a.may_be d.1)
    (λ _ d. StopsShort-answered _ start _ _ bytes _ rest a.line_outcome t a.may_be d)
