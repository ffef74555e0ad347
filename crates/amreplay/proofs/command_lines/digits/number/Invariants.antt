use Rattle.std.proofs.Common.{◌≡◌, ◌-◌, ◌^◌, min, take}
use Rattle.amreplay.specs.CommandLines.Parts.{number_of}
use Rattle.amreplay.proofs.command_lines.digits.number.Given as goal

abbrev pub invariant-loop-digit : goal.invariant-loop-digit
invariant-loop-digit l = l.number ≡ min (number_of (take l.digit-index l.digits)) (2 ^ 64 - 1)
