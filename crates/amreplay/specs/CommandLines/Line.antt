-- What is kept of the line that is being read.
use Rattle.std.specs.Prelude.{◌≡◌, ℕ, ◌+◌, ◌<◌, ◌≤◌, min, true, false, List, length}
use Rattle.amreplay.specs.declared.command_lines.line.Line.{Line}

-- the longest line that is a command
abbrev pub longest : ℕ
longest = 1_048_576

-- The line has these bytes so far. Its length is counted up to one more than the longest line. Its
-- bytes are held, if there was memory for them, up to the longest line. A line without its bytes
-- has at least one.
pub record Holds (line : Line) (bytes : List ℕ) : Type 0 where
  pub len : line.len ≡ min (length bytes) (longest + 1)
  pub held : line.is_held ≡ true → line.len ≤ longest → line.bytes.items ≡ bytes
  pub unheld : line.is_held ≡ false → 0 < length bytes

-- there was memory for the bytes of the line, so far
abbrev pub IsHeld : Line → Type 0
IsHeld line = line.is_held ≡ true
