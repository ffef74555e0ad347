-- A script while it is read, a line at a time.
use Rattle.std.specs.Prelude.{◌≡◌, ℕ, ◌<◌, ◌≤◌, ◌&&◌, ◌==◌, List, [], ◌∷◌, ◌++◌, length, Bool, true, false}
use Rattle.amr_events.specs.Actions.Events.{Event}
use Rattle.amr_events.specs.Refused.{LineIs}
use Rattle.amr_events.specs.Versions.{is_header}
use Rattle.amr_events.specs.Scripts.{is_blank, longest_line, most_events, Script}
use Rattle.amr_events.specs.declared.version.Version.{Version}
use Rattle.amr_events.specs.declared.version.Version.TheVariants.{One, Two}
use Rattle.amr_events.specs.declared.draft.Draft.{Draft}

-- what the lines so far were read as
abbrev pub so_far : Draft → Script
so_far draft = record { version = draft.version; events = draft.events.items }

-- what no line is read as
abbrev pub nothing : Script
nothing = record { version = One; events = [] }

abbrev pub is_one : Version → Bool
is_one One = true
is_one Two = false

-- no line has stated a version or held an event
abbrev pub is_new : Script → Bool
is_new script = is_one script.version && length script.events == 0

-- the line after those is the header
abbrev pub begins_with : Script → List ℕ → Bool
begins_with script line = is_new script && is_header line

-- What a line without a fault makes of a script.
pub data Adds (line : List ℕ) (old new : Script) : Type 0 where
  NoEvent : length line ≤ longest_line → is_blank line ≡ true → new ≡ old → Adds line old new
  Header :
      length line ≤ longest_line → is_blank line ≡ false → begins_with old line ≡ true
      → new ≡ record { version = Two; events = old.events } → Adds line old new
  OneEvent :
      (event : Event) → length line ≤ longest_line → is_blank line ≡ false → begins_with old line ≡ false → length old.events < most_events
      → LineIs old.version line event → new ≡ record { version = old.version; events = old.events ++ event ∷ [] } → Adds line old new
