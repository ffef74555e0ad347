use Rattle.std.proofs.Common.{◌≡◌, map, take}
use Rattle.amr_tables.specs.Numbered.{numbered_key}
use Rattle.amr_tables.proofs.Counting.{counted}
use Rattle.amr_tables.proofs.numbers.Numbers.sorted.Given as goal

abbrev pub invariant-loop-number : goal.invariant-loop-number
invariant-loop-number g l = map numbered_key l.sorted.items ≡ counted 0 (take l.number l.key-items)
