use Rattle.std.proofs.Common.{◌≡◌, take, min}
use Rattle.amr_time.specs.MomentText.{decimal}
use Rattle.amr_time.proofs.digits.wide_number.Given as goal

abbrev pub invariant-loop-byte : goal.invariant-loop-byte
invariant-loop-byte l = l.number ≡ min 18_446_744_073_709_551_616 (decimal (take l.byte-index l.bytes))
