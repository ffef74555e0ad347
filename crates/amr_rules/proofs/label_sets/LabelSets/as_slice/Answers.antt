use Rattle.std.proofs.Common.{sym, ap, ◌∙◌}
use Rattle.amr_labels.specs.Set.{items}
use Rattle.amr_rules.proofs.SortedSets.{items_are}
use Rattle.amr_rules.proofs.label_sets.LabelSets.as_slice.Goals as goal

pub returns : goal.returns
returns c = c.as_slice.ensures.value ∙ sym (items_are c.self.inside.sorted.items c.self.invariant) ∙ ap items c.self.view_is
