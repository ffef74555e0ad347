use Rattle.std.proofs.Common.{◌≡◌, drop}
use Rattle.amreplay.specs.CommandLines.Command.{named_among, known_words}
use Rattle.amreplay.proofs.command_lines.command.word_of.Given as goal

abbrev pub invariant-loop-word : goal.invariant-loop-word
invariant-loop-word l = named_among (drop l.word-index known_words) l.text ≡ named_among known_words l.text
