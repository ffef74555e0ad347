use Rattle.std.proofs.Common.{◌≡◌, take}
use Rattle.amr_labels.proofs.text_map.copies.Given as goal

abbrev pub invariant-loop-pair : goal.invariant-loop-pair
invariant-loop-pair l = l.copies.items ≡ take l.pair-index l.pairs
