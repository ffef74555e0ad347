-- the pairs that are left give the text under the name that all of them give
use Rattle.std.proofs.Common.{◌≡◌, drop}
use Rattle.std.specs.FinMap.{find}
use Rattle.amr_labels.specs.Labels.{text_cmp}
use Rattle.amr_labels.proofs.text_map.first_under.Given as goal

abbrev pub invariant-loop-pair : goal.invariant-loop-pair
invariant-loop-pair l = find text_cmp l.name l.pairs ≡ find text_cmp l.name (drop l.pair-index l.pairs)
