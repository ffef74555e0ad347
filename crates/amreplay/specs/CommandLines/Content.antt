-- What is known of a line.
use Rattle.std.specs.Prelude.{◌≡◌, ℕ, ◌<◌, ◌≤◌, List, length}
use Rattle.amreplay.specs.CommandLines.Line.{longest}
use Rattle.amreplay.specs.declared.command_lines.line.Content.{Content}
use Rattle.amreplay.specs.declared.command_lines.line.Content.TheVariants.{TooLong, NoMemory, Held}

abbrev pub IsContent : List ℕ → Content → Type 0
IsContent bytes TooLong = longest < length bytes
IsContent bytes NoMemory = (0 < length bytes) × (length bytes ≤ longest)
IsContent bytes (Held held) = (length bytes ≤ longest) × (held.now ≡ bytes)
