use Rattle.std.proofs.lemmas.List.Sorted.{list_any-IsPermutation}
use Rattle.std.specs.Ordering.{eq_by_cmp}
use Rattle.amr_labels.specs.Labels.{text_cmp}
use Rattle.amr_labels.proofs.names.Names.contains.Goals as goal

pub returns-else-len-le-FEW_NAMES : goal.returns-else-len-le-FEW_NAMES
returns-else-len-le-FEW_NAMES c = cc (list_any-IsPermutation (eq_by_cmp text_cmp c.args.name.now) c.self.inside.given c.self.inside.sorted c.self.invariant.1)
