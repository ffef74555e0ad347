-- A script: a line for each event. The first fault decides.
use Rattle.std.specs.Prelude.{◌≡◌, ℕ, ◌+◌, ◌<◌, ◌≤◌, ◌||◌, ◌&&◌, ◌==◌, List, [], ◌∷◌, ◌++◌, length, filter, Bool, false, not, All, None, Result, Ok, Err, if◌then◌else◌}
use Rattle.std.specs.List.{slice_split, list_all, AllZip}
use Rattle.amr_events.specs.Actions.Events.{Event}
use Rattle.amr_events.specs.Lines.{event_of_line}
use Rattle.amr_events.specs.Refused.{LineIs}
use Rattle.amr_events.specs.Versions.{is_header}
use Rattle.amr_events.specs.declared.error.Fault.{Fault}
use Rattle.amr_events.specs.declared.error.Fault.TheVariants.{BadLine, LineTooLong, TooManyEvents}
use Rattle.amr_events.specs.declared.version.Version.{Version}
use Rattle.amr_events.specs.declared.version.Version.TheVariants.{One, Two}

-- the white space of JSON
abbrev pub is_space : ℕ → Bool
is_space c = c == 32 || c == 9 || c == 10 || c == 13

abbrev pub is_blank : List ℕ → Bool
is_blank line = list_all is_space line

-- a line feed ends a line
abbrev pub lines_of : List ℕ → List (List ℕ)
lines_of bytes = slice_split (λ b. b == 10) bytes

abbrev pub longest_line : ℕ
longest_line = 1_048_576

abbrev pub most_events : ℕ
most_events = 1_000_000

-- the lines that aren't blank
abbrev pub full_lines : List (List ℕ) → List (List ℕ)
full_lines lines = filter (λ line. not (is_blank line)) lines

-- the version that the first of these lines states
abbrev pub version_of : List (List ℕ) → Version
version_of [] = One
version_of (line ∷ lines) = if is_header line then Two else One

-- these lines without the header
abbrev pub after_header : List (List ℕ) → List (List ℕ)
after_header [] = []
after_header (line ∷ lines) = if is_header line then lines else line ∷ lines

-- the lines that must hold an event: those that aren't blank, without the header
abbrev pub event_lines : List (List ℕ) → List (List ℕ)
event_lines lines = after_header (full_lines lines)

-- a script as it is read
pub record Script : Type 0 where
  pub version : Version
  pub events : List Event

-- The lines are read as this script: its version is the one that the first line that isn't blank
-- states, and each line after that, or else from that on, is one of its events, in order.
pub record ReadAs (lines : List (List ℕ)) (script : Script) : Type 0 where
  pub short : All (λ line. length line ≤ longest_line) lines
  pub version : script.version ≡ version_of (full_lines lines)
  pub read : AllZip (LineIs script.version) (event_lines lines) script.events
  pub few : length script.events ≤ most_events

-- the line is the header: it states version 2, and all the lines before it are blank
abbrev pub is_header_after : List (List ℕ) → List ℕ → Bool
is_header_after before line = length (full_lines before) == 0 && is_header line

-- Line n, after lines that are read as this script, has the fault; it may be the header. A line
-- that is too long comes first, then one event too many.
abbrev pub HasFault : ℕ → Bool → List ℕ → Script → Fault → Type 0
HasFault n header line script (LineTooLong m) = (m ≡ n) × (longest_line < length line)
HasFault n header line script TooManyEvents = (length line ≤ longest_line) × (is_blank line ≡ false) × (most_events ≤ length script.events)
HasFault n header line script (BadLine m) =
    (m ≡ n) × (length line ≤ longest_line) × (is_blank line ≡ false) × (header ≡ false)
    × (length script.events < most_events) × (event_of_line script.version line ≡ None)

-- The fault is that of some line, and the lines before it can be read. Lines are counted from 1.
pub record HasFirstFault (lines : List (List ℕ)) (fault : Fault) : Type 0 where
  pub before : List (List ℕ)
  pub line : List ℕ
  pub after : List (List ℕ)
  pub script : Script
  pub parts : lines ≡ before ++ line ∷ after
  pub read : ReadAs before script
  pub here : HasFault (length before + 1) (is_header_after before line) line script fault

-- the script that the bytes spell, or its first fault
abbrev pub ScriptIs : List ℕ → Result Script Fault → Type 0
ScriptIs bytes (Ok script) = ReadAs (lines_of bytes) script
ScriptIs bytes (Err fault) = HasFirstFault (lines_of bytes) fault

-- the event of a line on its own, or its fault
abbrev pub OnlyLineIs : Version → List ℕ → Result Event Fault → Type 0
OnlyLineIs version line (Ok event) = LineIs version line event
OnlyLineIs version line (Err fault) = (fault ≡ BadLine 1) × (event_of_line version line ≡ None)
