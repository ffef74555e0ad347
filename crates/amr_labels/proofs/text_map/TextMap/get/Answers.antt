use Rattle.amr_labels.specs.Map as map
use Rattle.amr_labels.proofs.text_map.TextMap.get.Goals as goal

pub text_under-requires : goal.text_under-requires
text_under-requires c = rw c.entries.ensures (map.entries-sorted c.args.self.now)

pub returns : goal.returns
returns c = cc (map.get-entries c.args.self.now c.args.name.now)
