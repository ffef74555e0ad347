use Rattle.std.proofs.Common.{◌≡◌, take}
use Rattle.std.specs.List.{filter, list_any}
use Rattle.std.specs.Ordering.{eq_by_cmp}
use Rattle.amr_labels.specs.Labels.{text_cmp}
use Rattle.amr_labels.proofs.text_map.named.Given as goal

abbrev pub invariant-loop-pair : goal.invariant-loop-pair
invariant-loop-pair l = l.kept.items ≡ filter (λ pair. list_any (eq_by_cmp text_cmp pair.0) l.names) (take l.pair-index l.pairs)
