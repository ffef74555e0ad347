use Rattle.amr_labels.specs.Map as map
use Rattle.amr_labels.specs.Labels.{text_cmp}
use Rattle.amr_labels.proofs.text_map.TextMap.entries.Goals as goal

pub returns : goal.returns
returns c = cc (map.entries-from_sorted text_cmp c.self.inside.pairs.value.items c.self.invariant)
