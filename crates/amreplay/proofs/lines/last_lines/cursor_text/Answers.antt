use Rattle.std.proofs.Common.{◌∙◌}
use Rattle.std.proofs.lemmas.Result.{IfOk-weaker}
use Rattle.amreplay.proofs.LinesLemmas.LineParts.{cursor_line-parts}
use Rattle.amreplay.proofs.lines.last_lines.cursor_text.Goals as goal

pub returns : goal.returns
returns c = IfOk-weaker c.format.result _ _ (λ text e. e ∙ rw c.word_text-word.ensures (cursor_line-parts c.args.word c.args.cursor)) c.format.ensures.ok
