use Rattle.std.proofs.Common.{subst}
use Rattle.amreplay.specs.Lines.CheckedWriter.{WritesText}
use Rattle.amreplay.proofs.LinesLemmas.LineParts.{cursor_line-parts}
use Rattle.amreplay.specs.declared.lines.word.Word.TheVariants.{Back}
use Rattle.amreplay.proofs.lines.last_lines.write_back.Goals as goal

pub returns-clause-written : goal.returns-clause-written
returns-clause-written g c = subst (WritesText _ _ c.write_parts.result) (rw (c.as_bytes.ensures.value, c.format.ensures.text) (cursor_line-parts Back c.args.cursor)) c.write_parts.ensures.written
