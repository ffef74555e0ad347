-- An empty line prints nothing.
use Rattle.std.proofs.Common.{◌≡◌, [], ap, sym, subst, inl, inr, refl, arith}
use Rattle.std.specs.Prelude.{if◌then◌else◌}
use Rattle.std.proofs.lemmas.Str.{IsUtf8-nil, is_utf8-from_IsUtf8}
use Rattle.amr_events.specs.declared.version.Version.{Version}
use Rattle.amreplay.specs.declared.lines.word.Word.TheVariants as word
use Rattle.amreplay.specs.declared.command_lines.command.ParsedLine.{ParsedLine}
use Rattle.amreplay.specs.declared.command_lines.command.ParsedLine.TheVariants.{Nothing, Malformed}
use Rattle.amreplay.specs.CommandLines.Parts.{word_in, without_outer_space}
use Rattle.amreplay.specs.CommandLines.Command.{word_named, said_in, said_of}
use Rattle.amreplay.specs.CommandLines.ParsedLine.{LineSays}
use Rattle.amreplay.specs.Commands.Replies.{MayFindNoMemory, reply_of}
use Rattle.amreplay.specs.Commands.Talk.{TooLong, NoMemory, Undone, Done}
use Rattle.amreplay.specs.Commands.Laws.{EmptyIsSilent}

empty_says : (version : Version) → said_of version [] ≡ Nothing
unfolding said_of said_in
empty_says version = ap (λ b. if b then said_in version (without_outer_space []) else Malformed word.Unknown) (is_utf8-from_IsUtf8 [] IsUtf8-nil)

empty_is_no_word : word_named (word_in (without_outer_space [])) ≡ word.Unknown
unfolding word_named
empty_is_no_word = refl

-- an empty line is parsed as nothing
says_nothing : (version : Version) (parsed : ParsedLine) → LineSays version [] parsed → Nothing ≡ parsed
says_nothing version parsed (inl e) = let none = empty_says version in sym (cc (e, none))
says_nothing version parsed (inr (text, trial, tries)) = absurd (cc (empty_is_no_word, trial))

pub empty_is_silent : EmptyIsSilent
empty_is_silent incident cursor TooLong long = absurd (omega arith)
empty_is_silent incident cursor NoMemory (some, short) = absurd (omega arith)
empty_is_silent incident cursor (Undone parsed) (short, says, takes) = absurd (subst (MayFindNoMemory incident cursor) (sym (says_nothing incident.version parsed says)) takes)
empty_is_silent incident cursor (Done parsed) (short, says) = ap (reply_of incident cursor) (sym (says_nothing incident.version parsed says))
