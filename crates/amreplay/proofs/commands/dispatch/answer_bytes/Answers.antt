use Rattle.std.proofs.Common.{subst}
use Rattle.amreplay.specs.CommandLines.Command.{said_of}
use Rattle.amreplay.specs.CommandLines.ParsedLine.{LineSays, ReadsSuch}
use Rattle.amreplay.specs.Commands.Replies.{incident_of}
use Rattle.amreplay.proofs.CommandsLemmas.Answering.{outcome_read}
use Rattle.amreplay.proofs.commands.dispatch.answer_bytes.Goals as goal

pub returns-clause-has_line_outcome : goal.returns-clause-has_line_outcome
returns-clause-has_line_outcome c = λ short.
    let line = c.args.bytes.now in
    let read = subst (λ v. ReadsSuch (LineSays v line) (said_of v line) c.read-parsed.result) c.version.ensures c.read-parsed.ensures in
    outcome_read (incident_of c.args.session.now) _ _ line c.read-parsed.result c.answer_parsed.result short read c.answer_parsed.ensures.answered
