use Rattle.std.proofs.Common.{subst}
use Rattle.amreplay.specs.Lines.CheckedWriter.{WritesText}
use Rattle.amreplay.proofs.LinesLemmas.LineParts.{position_line-parts}
use Rattle.amreplay.proofs.lines.last_lines.write_position.Goals as goal

pub returns-clause-written : goal.returns-clause-written
returns-clause-written g c = subst (WritesText _ _ c.write_parts.result) (rw (c.as_bytes.ensures.value, c.format.ensures.text, c.as_bytes-2.ensures.value, c.format-2.ensures.text, c.as_bytes-3.ensures, c.of-now.ensures) (position_line-parts c.args.cursor c.args.events c.args.now)) c.write_parts.ensures.written
