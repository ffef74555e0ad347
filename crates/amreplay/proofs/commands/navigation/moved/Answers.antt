use Rattle.std.proofs.Common.{inl, arith}
use Rattle.amreplay.specs.Commands.Replies.{incident_of}
use Rattle.amreplay.proofs.CommandsLemmas.EventsPassed.{moved_built, passed_fit}
use Rattle.amreplay.proofs.commands.navigation.moved.Goals as goal

pub passed_text-requires-clause-within : goal.passed_text-requires-clause-within
passed_text-requires-clause-within c =
    omega (arith, c.cursor-to.ensures.cursor, c.cursor-to.ensures.within, passed_fit c.args.session.now.config c.args.session.now.events c.args.from c.args.session.now.cursor c.args.outcomes.now c.requires (omega (arith, c.cursor-to.ensures.cursor, c.if-to-from.false)))

pub passed_text-requires-clause-fits : goal.passed_text-requires-clause-fits
passed_text-requires-clause-fits c =
    omega (arith, c.cursor-to.ensures.cursor, passed_fit c.args.session.now.config c.args.session.now.events c.args.from c.args.session.now.cursor c.args.outcomes.now c.requires (omega (arith, c.cursor-to.ensures.cursor, c.if-to-from.false)))

pub returns-in-Ok-clause-moved : goal.returns-in-Ok-clause-moved
returns-in-Ok-clause-moved c =
    inl (moved_built (incident_of c.args.session.now) c.args.from c.args.session.now.cursor c.args.word c.args.outcomes.now c.in-Ok.text c.requires c.in-Ok.ensures)
