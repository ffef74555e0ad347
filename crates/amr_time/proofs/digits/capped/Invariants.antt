use Rattle.std.proofs.Common.{◌≡◌, take, min}
use Rattle.amr_time.specs.MomentText.{decimal}
use Rattle.amr_time.proofs.digits.capped.Given as goal

abbrev pub invariant-loop-byte : goal.invariant-loop-byte
invariant-loop-byte l = l.number ≡ min l.limit (decimal (take l.byte-index l.bytes))
