use Rattle.std.proofs.Common.{◌≡◌, take}
use Rattle.amr_labels.specs.Matcher.ValueBits.{bits_among}
use Rattle.amr_labels.proofs.matcher.bits.value_bits.Given as goal

abbrev pub invariant-loop-name : goal.invariant-loop-name
invariant-loop-name l = l.bits ≡ bits_among (take l._name-index l._name-items)
