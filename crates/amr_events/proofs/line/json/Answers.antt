use Rattle.std.proofs.Common.{arith}
use Rattle.std.proofs.lemmas.Str.{IsUtf8-from_is_utf8, is_utf8-from_IsUtf8}
use Rattle.amr_events.specs.Lines.{json_of}
use Rattle.amr_events.proofs.line.json.Goals as goal

pub returns-in-Ok : goal.returns-in-Ok
unfolding json_of
returns-in-Ok c = grind (arith, is_utf8-from_IsUtf8 c.args.line.now c.in-Ok.ensures.ok.0)

pub returns-else-is_memory : goal.returns-else-is_memory
unfolding json_of
returns-else-is_memory c = grind (arith, IsUtf8-from_is_utf8 c.args.line.now, c.in-Err.ensures.err, c.if-is_memory.ensures)
