use Rattle.std.proofs.Common.{subst}
use Rattle.amreplay.specs.Lines.CheckedWriter.{WritesText}
use Rattle.amreplay.proofs.LinesLemmas.LineParts.{refused_line-parts}
use Rattle.amreplay.proofs.lines.last_lines.write_refused.Goals as goal

pub returns-clause-written : goal.returns-clause-written
returns-clause-written g c = subst (WritesText _ _ c.write_parts.result) (rw (c.as_bytes.ensures.value, c.word_text.ensures, c.as_bytes-2.ensures.value, c.format.ensures.text, c.as_bytes-3.ensures.value, c.format-2.ensures.text) (refused_line-parts c.args.word c.args.cursor c.args.reason)) c.write_parts.ensures.written
