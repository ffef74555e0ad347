use Rattle.std.proofs.Common.{◌≡◌, ℕ, List, ◌++◌, length}
use Rattle.amr_events.specs.ScriptReaders.{Follows}
use Rattle.amr_events.proofs.script_reader.ScriptReader.add_bytes.Given as goal

-- all but the bytes that are left were read
abbrev pub invariant-loop-end : goal.invariant-loop-end
invariant-loop-end l = record {
  done : List ℕ;
  bytes : l.bytes ≡ done ++ l.left;
  read : Follows done l.initial.self l.self;
}

abbrev pub decreases-loop-end : goal.decreases-loop-end
decreases-loop-end l = length l.left
