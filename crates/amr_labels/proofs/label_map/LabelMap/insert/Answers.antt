use Rattle.amr_labels.specs.Labels.{label_set_cmp_total}
use Rattle.amr_labels.proofs.Trees.{insert_of_tree}
use Rattle.amr_labels.proofs.label_map.LabelMap.insert.Goals as goal

pub returns-clause-ok : goal.returns-clause-ok
returns-clause-ok g c =
    cc (insert_of_tree label_set_cmp_total c.self.inside.tree c.insert.new.self c.args.labels c.args.value c.self.invariant c.insert.ensures.ordered c.in_ok-insert.ensures.entries)
