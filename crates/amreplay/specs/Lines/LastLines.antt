-- The status lines that end the commands of a session.
use Rattle.std.specs.Prelude.{ℕ, List, [], ◌∷◌, codes}
use Rattle.serde_json.specs.Data.{Data, string, object}
use Rattle.amr_labels.specs.Labels.{Text}
use Rattle.amr_time.specs.Time.{Moment}
use Rattle.amreplay.specs.declared.lines.word.Word.{Word}
use Rattle.amreplay.specs.declared.lines.word.Word.TheVariants.{Step, Back, Seek, SeekTime, Trial, Explain, Alerts, Silences, Groups, Log, Transcript, Cursor, Unknown}
use Rattle.amreplay.specs.Lines.Printed.{object_of, number_data, moment_data, data_line}

-- a word as it is printed; a question mark for one that isn't known
abbrev pub word_text : Word → Text
word_text Step = codes "step"
word_text Back = codes "back"
word_text Seek = codes "seek"
word_text SeekTime = codes "seek-time"
word_text Trial = codes "trial"
word_text Explain = codes "explain"
word_text Alerts = codes "alerts"
word_text Silences = codes "silences"
word_text Groups = codes "groups"
word_text Log = codes "log"
word_text Transcript = codes "transcript"
word_text Cursor = codes "cursor"
word_text Unknown = codes "?"

-- what each last line has: the word and the cursor
abbrev pub with_word : Word → ℕ → List (Text × Data) → List (Text × Data)
with_word word cursor more = (codes "command", string (word_text word)) ∷ (codes "cursor", number_data cursor) ∷ more

abbrev pub moves_data : Word → ℕ → ℕ → Data
moves_data word cursor moves = object (object_of (with_word word cursor ((codes "moves", number_data moves) ∷ [])))

-- the last line of a command that passes events, with the moves that they made
abbrev pub moves_line : Word → ℕ → ℕ → Text
moves_line word cursor moves = data_line (moves_data word cursor moves)

abbrev pub cursor_data : Word → ℕ → Data
cursor_data word cursor = object (object_of (with_word word cursor []))

-- the last line of a command that has only that
abbrev pub cursor_line : Word → ℕ → Text
cursor_line word cursor = data_line (cursor_data word cursor)

abbrev pub position_members : ℕ → ℕ → Moment → List (Text × Data)
position_members cursor events now = with_word Cursor cursor ((codes "events", number_data events) ∷ (codes "now", moment_data now) ∷ [])

unfoldable pub position_data : ℕ → ℕ → Moment → Data
position_data cursor events now = object (object_of (position_members cursor events now))

-- the line of the command `cursor`
abbrev pub position_line : ℕ → ℕ → Moment → Text
position_line cursor events now = data_line (position_data cursor events now)

abbrev pub refused_data : Word → ℕ → ℕ → Data
refused_data word cursor reason = object (object_of (with_word word cursor ((codes "refused", number_data reason) ∷ [])))

-- the line of a refused command, with the number of the reason
abbrev pub refused_line : Word → ℕ → ℕ → Text
refused_line word cursor reason = data_line (refused_data word cursor reason)
