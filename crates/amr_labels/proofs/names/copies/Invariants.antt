use Rattle.std.proofs.Common.{◌≡◌, take}
use Rattle.amr_labels.proofs.names.copies.Given as goal

abbrev pub invariant-loop-name : goal.invariant-loop-name
invariant-loop-name l = l.copies.items ≡ take l.name-index l.names
