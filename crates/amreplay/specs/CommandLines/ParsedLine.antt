-- What parsing a command line may return.
use Rattle.std.specs.Prelude.{◌≡◌, ◌⊎◌, ⊤, true}
use Rattle.std.specs.Str.{is_utf8}
use Rattle.amr_labels.specs.Labels.{Text}
use Rattle.amr_events.specs.Actions.Events.{Event}
use Rattle.amr_events.specs.Refused.{LineIs}
use Rattle.amr_events.specs.declared.version.Version.{Version}
use Rattle.amreplay.specs.declared.lines.word.Word.{Word}
use Rattle.amreplay.specs.declared.lines.word.Word.TheVariants as word
use Rattle.amreplay.specs.declared.command_lines.command.Query.TheVariants.{Explain}
use Rattle.amreplay.specs.declared.command_lines.command.Command.{Command}
use Rattle.amreplay.specs.declared.command_lines.command.Command.TheVariants as command
use Rattle.amreplay.specs.declared.command_lines.command.ParsedLine.{ParsedLine}
use Rattle.amreplay.specs.declared.command_lines.command.ParsedLine.TheVariants.{Nothing, Asks, Malformed, BadMoment, BadArgument, NoMemory}
use Rattle.amreplay.specs.CommandLines.Parts.{without_outer_space, word_in, argument_in}
use Rattle.amreplay.specs.CommandLines.Command.{word_named, word_of_command, said_by, said_in, said_of}

-- the event of a trial is one that its text may be read as, given what `regex` refuses in it
abbrev pub Tries : Version → Text → ParsedLine → Type 0
Tries version argument parsed = (event : Event) × (parsed ≡ Asks (command.Trial event)) × LineIs version argument event

-- a word may be parsed as this, with what follows it
abbrev pub WordSays : Version → Word → Text → ParsedLine → Type 0
WordSays version name argument parsed = (parsed ≡ said_by version name argument) ⊎ ((name ≡ word.Trial) × Tries version argument parsed)

-- a text without white space at its ends may be parsed as this
abbrev pub TextSays : Version → Text → ParsedLine → Type 0
TextSays version text parsed = (parsed ≡ said_in version text) ⊎ ((word_named (word_in text) ≡ word.Trial) × Tries version (argument_in text) parsed)

-- The line may be parsed as this, in a session of a script of this version. It is `said_of` of the
-- line, except that the event of a trial is any that its text may be read as.
abbrev pub LineSays : Version → Text → ParsedLine → Type 0
LineSays version line parsed =
    (parsed ≡ said_of version line)
    ⊎ ((is_utf8 line ≡ true) × (word_named (word_in (without_outer_space line)) ≡ word.Trial) × Tries version (argument_in (without_outer_space line)) parsed)

-- the word that a refusal names
abbrev pub word_of : ParsedLine → Word
word_of Nothing = word.Unknown
word_of (Asks command) = word_of_command command
word_of (Malformed word) = word
word_of BadMoment = word.SeekTime
word_of (BadArgument word) = word
word_of (NoMemory word) = word

-- the argument of the command is JSON
abbrev pub HasJson : Command → Type 0
HasJson (command.Trial event) = ⊤
HasJson (command.Query (Explain labels)) = ⊤
HasJson command = ⊥

-- parsing it takes memory, because the argument is JSON
abbrev pub ReadingTakesMemory : ParsedLine → Type 0
ReadingTakesMemory Nothing = ⊥
ReadingTakesMemory (Asks command) = HasJson command
ReadingTakesMemory (Malformed word) = ⊥
ReadingTakesMemory BadMoment = ⊥
ReadingTakesMemory (BadArgument word) = ⊤
ReadingTakesMemory (NoMemory word) = ⊥

-- What was read satisfies this, or memory ran out. Then what the line says takes memory, and all that
-- was read of it is its word.
abbrev pub ReadsSuch : (ParsedLine → Type 0) → ParsedLine → ParsedLine → Type 0
ReadsSuch IsSuch parsed read = IsSuch read ⊎ (ReadingTakesMemory parsed × (read ≡ NoMemory (word_of parsed)))

-- this was read, or memory ran out
abbrev pub Reads : ParsedLine → ParsedLine → Type 0
Reads parsed read = ReadsSuch (λ such. such ≡ parsed) parsed read
