-- The numbers under which refused commands are printed.
use Rattle.std.specs.Prelude.{ℕ}
use Rattle.amreplay.specs.declared.commands.answer.Refusal.{Refusal}
use Rattle.amreplay.specs.declared.commands.answer.Refusal.TheVariants.{Memory, BadTime, BadLine, LineTooLong, AtEnd, AtStart, OutOfRange}

abbrev pub refusal_number : Refusal → ℕ
refusal_number Memory = 0
refusal_number BadTime = 3
refusal_number BadLine = 13
refusal_number LineTooLong = 14
refusal_number AtEnd = 22
refusal_number AtStart = 23
refusal_number OutOfRange = 24
