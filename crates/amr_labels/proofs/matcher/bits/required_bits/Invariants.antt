use Rattle.std.proofs.Common.{◌≡◌, take}
use Rattle.amr_labels.specs.Matcher.ValueBits.{required_bits}
use Rattle.amr_labels.proofs.matcher.bits.required_bits.Given as goal

abbrev pub invariant-loop-matcher : goal.invariant-loop-matcher
invariant-loop-matcher l = l.bits ≡ required_bits (take l.matcher-index l.matchers)
