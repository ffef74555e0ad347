-- What a command line is parsed as.
use Rattle.std.specs.Prelude.{◌==◌, List, [], ◌∷◌, length, Option, None, if◌then◌else◌}
use Rattle.std.specs.Option.{option_map_or}
use Rattle.std.specs.List.{list_all}
use Rattle.std.specs.Str.{is_utf8, bytes_eq}
use Rattle.amr_labels.specs.Labels.{Text}
use Rattle.amr_time.specs.Time.{Moment}
use Rattle.amr_time.specs.MomentRead.{moment_at}
use Rattle.amr_events.specs.Lines.{event_of_line}
use Rattle.amreplay.specs.declared.lines.word.Word.{Word}
use Rattle.amreplay.specs.declared.lines.word.Word.TheVariants as word
use Rattle.amreplay.specs.Lines.LastLines.{word_text}
use Rattle.amreplay.specs.CommandLines.Parts.{without_outer_space, word_in, argument_in, is_digit, number_within}
use Rattle.amr_events.specs.LabelTexts.{labels_in}
use Rattle.amr_events.specs.declared.version.Version.{Version}
use Rattle.amreplay.specs.declared.command_lines.command.Move.{Move}
use Rattle.amreplay.specs.declared.command_lines.command.Move.TheVariants.{Step, Back, Seek, SeekTime}
use Rattle.amreplay.specs.declared.command_lines.command.Query.{Query}
use Rattle.amreplay.specs.declared.command_lines.command.Query.TheVariants.{Explain, Alerts, Silences, Groups, Log, Transcript}
use Rattle.amreplay.specs.declared.command_lines.command.Command.{Command}
use Rattle.amreplay.specs.declared.command_lines.command.Command.TheVariants as command
use Rattle.amreplay.specs.declared.command_lines.command.ParsedLine.{ParsedLine}
use Rattle.amreplay.specs.declared.command_lines.command.ParsedLine.TheVariants.{Nothing, Asks, Malformed, BadMoment, BadArgument}

-- the first of these words that the text is
abbrev pub named_among : List Word → Text → Word
named_among [] text = word.Unknown
named_among (word ∷ words) text = if bytes_eq text (word_text word) then word else named_among words text

abbrev pub known_words : List Word
known_words = word.Step ∷ word.Back ∷ word.Seek ∷ word.SeekTime ∷ word.Trial ∷ word.Explain
    ∷ word.Alerts ∷ word.Silences ∷ word.Groups ∷ word.Log ∷ word.Transcript ∷ word.Cursor ∷ []

-- the word that a text is
unfoldable pub word_named : Text → Word
word_named = named_among known_words

abbrev pub word_of_move : Move → Word
word_of_move Step = word.Step
word_of_move Back = word.Back
word_of_move (Seek n) = word.Seek
word_of_move (SeekTime moment) = word.SeekTime

abbrev pub word_of_query : Query → Word
word_of_query (Explain labels) = word.Explain
word_of_query Alerts = word.Alerts
word_of_query Silences = word.Silences
word_of_query Groups = word.Groups
word_of_query Log = word.Log
word_of_query Transcript = word.Transcript

-- the word of a command
abbrev pub word_of_command : Command → Word
word_of_command (command.Move move) = word_of_move move
word_of_command (command.Trial event) = word.Trial
word_of_command (command.Query query) = word_of_query query
word_of_command command.Cursor = word.Cursor

-- a command that takes no argument
abbrev pub said_alone : Command → Text → ParsedLine
said_alone command [] = Asks command
said_alone command (byte ∷ bytes) = Malformed (word_of_command command)

-- a command that takes one
abbrev pub with_argument : Word → (Text → ParsedLine) → Text → ParsedLine
with_argument word says [] = Malformed word
with_argument word says (byte ∷ bytes) = says (byte ∷ bytes)

abbrev pub seek_said : Text → ParsedLine
seek_said argument = if list_all is_digit argument then Asks (command.Move (Seek (number_within argument))) else Malformed word.Seek

unfoldable pub moment_in : Text → Option Moment
moment_in text = if is_utf8 text then moment_at text else None

abbrev pub seek_time_said : Text → ParsedLine
seek_time_said argument = option_map_or (λ moment. Asks (command.Move (SeekTime moment))) (moment_in argument) BadMoment

abbrev pub trial_said : Version → Text → ParsedLine
trial_said version argument = option_map_or (λ event. Asks (command.Trial event)) (event_of_line version argument) (BadArgument word.Trial)

abbrev pub explain_said : Text → ParsedLine
explain_said argument = option_map_or (λ labels. Asks (command.Query (Explain labels))) (labels_in argument) (BadArgument word.Explain)

-- what a word is parsed as, with what follows it, in a session of a script of this version
unfoldable pub said_by : Version → Word → Text → ParsedLine
said_by version word.Step argument = said_alone (command.Move Step) argument
said_by version word.Back argument = said_alone (command.Move Back) argument
said_by version word.Seek argument = with_argument word.Seek seek_said argument
said_by version word.SeekTime argument = with_argument word.SeekTime seek_time_said argument
said_by version word.Trial argument = with_argument word.Trial (trial_said version) argument
said_by version word.Explain argument = with_argument word.Explain explain_said argument
said_by version word.Alerts argument = said_alone (command.Query Alerts) argument
said_by version word.Silences argument = said_alone (command.Query Silences) argument
said_by version word.Groups argument = said_alone (command.Query Groups) argument
said_by version word.Log argument = said_alone (command.Query Log) argument
said_by version word.Transcript argument = said_alone (command.Query Transcript) argument
said_by version word.Cursor argument = said_alone command.Cursor argument
said_by version word.Unknown argument = Malformed word.Unknown

-- what a text without white space at its ends is parsed as
unfoldable pub said_in : Version → Text → ParsedLine
said_in version text = if length text == 0 then Nothing else said_by version (word_named (word_in text)) (argument_in text)

-- what a line is parsed as
unfoldable pub said_of : Version → Text → ParsedLine
said_of version line = if is_utf8 line then said_in version (without_outer_space line) else Malformed word.Unknown
