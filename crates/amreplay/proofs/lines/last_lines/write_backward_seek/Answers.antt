use Rattle.std.proofs.Common.{subst}
use Rattle.amreplay.specs.Lines.CheckedWriter.{WritesText}
use Rattle.amreplay.proofs.LinesLemmas.LineParts.{moves_line-none}
use Rattle.amreplay.proofs.lines.last_lines.write_backward_seek.Goals as goal

pub returns-clause-written : goal.returns-clause-written
returns-clause-written g c = subst (WritesText _ _ c.write_parts.result) (rw (c.as_bytes.ensures.value, c.word_text.ensures, c.as_bytes-2.ensures.value, c.format.ensures.text) (moves_line-none c.args.word c.args.cursor)) c.write_parts.ensures.written
