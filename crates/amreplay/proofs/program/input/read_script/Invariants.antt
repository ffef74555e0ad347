use Rattle.std.proofs.Common.{◌≡◌, ◌-◌, ℕ, List}
use Rattle.std.specs.Io.KnownBytes.{Consumes}
use Rattle.amr_events.specs.ScriptReaders.{HasRead}
use Rattle.amreplay.proofs.program.input.read_script.Given as goal

-- the bytes so far were read
abbrev pub invariant-loop-script : goal.invariant-loop-script
invariant-loop-script g l = record {
  bytes : List ℕ;
  consumed : Consumes (g.R.Read.remaining l.initial.file.reader) (g.R.Read.remaining l.file.reader) bytes;
  read : HasRead bytes l.script;
  failed : l.file.failed ≡ l.initial.file.failed;
}

abbrev pub decreases-loop-script : goal.decreases-loop-script
decreases-loop-script g l = 1_099_511_627_776 - l.file.calls
