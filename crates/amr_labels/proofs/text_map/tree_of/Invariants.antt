use Rattle.std.proofs.Common.{◌≡◌, take, reverse}
use Rattle.std.specs.BTreeMap.{IsOrdered}
use Rattle.amr_labels.specs.Map as map
use Rattle.amr_labels.specs.Labels.{text_cmp}
use Rattle.amr_labels.proofs.text_map.tree_of.Given as goal

abbrev pub invariant-loop-pair : goal.invariant-loop-pair
invariant-loop-pair l = record {
  ordered : IsOrdered text_cmp l.tree;
  made : map.from_sorted {R = text_cmp} l.tree.entries ≡ map.from_entries (reverse (take l.pair-index l.pairs));
}
