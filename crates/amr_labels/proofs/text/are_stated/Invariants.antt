use Rattle.std.proofs.Common.{◌≡◌, take}
use Rattle.amr_labels.specs.Lent.{lent_texts}
use Rattle.amr_labels.proofs.text.are_stated.Given as goal

abbrev pub invariant-loop-index : goal.invariant-loop-index
invariant-loop-index l = take l.index l.pairs ≡ lent_texts (take l.index l.stated)
