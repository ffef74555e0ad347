use Rattle.std.proofs.Common.{◌∙◌}
use Rattle.std.proofs.lemmas.Result.{IfOk-weaker}
use Rattle.amreplay.proofs.LinesLemmas.LineParts.{moves_line-parts}
use Rattle.amreplay.proofs.lines.last_lines.moves_text.Goals as goal

pub returns : goal.returns
returns c = IfOk-weaker c.format.result _ _ (λ text e. e ∙ rw c.word_text-word.ensures (moves_line-parts c.args.word c.args.cursor c.args.moves)) c.format.ensures.ok
