use Rattle.amreplay.proofs.LinesLemmas.Plain.{own_escape}
use Rattle.amreplay.proofs.lines.plain.needs_no_escape.Goals as goal

pub returns : goal.returns
returns c = own_escape c.are_plain.result c.args.text.now c.are_plain.ensures
