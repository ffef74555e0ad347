use Rattle.std.proofs.Common.{◌≡◌, ◌-◌}
use Rattle.std.specs.Io.KnownBytes.{Consumes}
use Rattle.amreplay.proofs.program.input.read_config_file.Given as goal

abbrev pub invariant-loop-bytes : goal.invariant-loop-bytes
invariant-loop-bytes g l = record {
  consumed : Consumes (g.R.Read.remaining l.initial.file.reader) (g.R.Read.remaining l.file.reader) l.bytes.items;
  failed : l.file.failed ≡ l.initial.file.failed;
}

abbrev pub decreases-loop-bytes : goal.decreases-loop-bytes
decreases-loop-bytes g l = 1_099_511_627_776 - l.file.calls
