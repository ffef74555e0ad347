-- The writer has got what is no longer in `rest`, and hasn't failed.
use Rattle.std.proofs.Common.{◌≡◌, ℕ, List, ◌++◌, length}
use Rattle.std.specs.Io.KnownBytes.{Appends}
use Rattle.amreplay.proofs.lines.checked_writer.write_whole.Given as goal

abbrev pub invariant-loop-rest : goal.invariant-loop-rest
invariant-loop-rest g l = record {
  written : (done : List ℕ) × (l.bytes ≡ done ++ l.rest) × Appends (g.W.Write.contents l.initial.out.writer) (g.W.Write.contents l.out.writer) done;
  failed : l.out.failed ≡ l.initial.out.failed;
}

abbrev pub decreases-loop-rest : goal.decreases-loop-rest
decreases-loop-rest g l = length l.rest
