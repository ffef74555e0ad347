use Rattle.std.proofs.Common.{ap}
use Rattle.amr_labels.specs.Labels.{label_set_cmp}
use Rattle.amr_labels.proofs.Trees.{empty_of_entries}
use Rattle.amr_rules.specs.LabelSets.{as_entries}
use Rattle.amr_rules.proofs.label_sets.LabelSets.new.Goals as goal

pub returns : goal.returns
returns c = empty_of_entries label_set_cmp _ (ap as_entries c.new.ensures.items)
