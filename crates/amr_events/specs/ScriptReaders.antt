-- A script while it is read, some bytes at a time.
use Rattle.std.specs.Prelude.{◌≡◌, ℕ, ◌+◌, ◌≤◌, List, [], ◌∷◌, ◌++◌, length, Err}
use Rattle.amr_events.specs.Scripts.{lines_of, longest_line, ReadAs, ScriptIs}
use Rattle.amr_events.specs.Drafts.{so_far}
use Rattle.amr_events.specs.declared.error.Fault.{Fault}
use Rattle.amr_events.specs.declared.script_reader.ScriptReader.{ScriptReader}

-- These bytes were read, without a fault: all lines but the last one were, and that one is kept.
pub record HasRead (bytes : List ℕ) (reader : ScriptReader) : Type 0 where
  pub ended : List (List ℕ)
  pub lines : lines_of bytes ≡ ended ++ reader.unfinished.items ∷ []
  pub read : ReadAs ended (so_far reader.draft)
  pub number : reader.draft.number ≡ length ended + 1
  pub short : length reader.unfinished.items ≤ longest_line

-- the one has read what the other has, and these bytes after that
abbrev pub Follows : List ℕ → ScriptReader → ScriptReader → Type 0
Follows bytes old new = (earlier : List ℕ) → HasRead earlier old → HasRead (earlier ++ bytes) new

-- a script that begins with these bytes has this fault
abbrev pub IsRefusedWhateverFollows : List ℕ → Fault → Type 0
IsRefusedWhateverFollows bytes fault = (rest : List ℕ) → ScriptIs (bytes ++ rest) (Err fault)

-- a script has this fault if it begins with what was read and these bytes after that
abbrev pub IsRefusedAfter : List ℕ → ScriptReader → Fault → Type 0
IsRefusedAfter bytes reader fault = (earlier : List ℕ) → HasRead earlier reader → IsRefusedWhateverFollows (earlier ++ bytes) fault

-- no line feed is among the bytes
abbrev pub IsOneLine : List ℕ → Type 0
IsOneLine bytes = lines_of bytes ≡ bytes ∷ []
