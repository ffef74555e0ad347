use Rattle.std.proofs.Common.{◌≡◌, not, take, filter}
use Rattle.amr_labels.specs.Labels.{is_empty}
use Rattle.amr_labels.proofs.text_map.filled.Given as goal

abbrev pub invariant-loop-pair : goal.invariant-loop-pair
invariant-loop-pair l = l.kept.items ≡ filter (λ pair. not (is_empty pair.1)) (take l.pair-index l.pairs)
