use Rattle.amreplay.proofs.CommandsLemmas.Silent.{empty_is_silent}
use Rattle.amreplay.proofs.commands.laws.an_empty_line_prints_nothing.Goals as goal

pub returns : goal.returns
returns c = empty_is_silent
