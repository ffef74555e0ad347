use Rattle.std.proofs.Common.{◌≡◌, flat_map, take}
use Rattle.std.specs.Io.KnownBytes.{Appends}
use Rattle.amreplay.proofs.lines.checked_writer.write_parts.Given as goal

abbrev pub invariant-loop-part : goal.invariant-loop-part
invariant-loop-part g l = record {
  written : Appends (g.W.Write.contents l.initial.out.writer) (g.W.Write.contents l.out.writer) (flat_map (λ part. part.now) (take l.part-index l.parts));
  failed : l.out.failed ≡ l.initial.out.failed;
}
