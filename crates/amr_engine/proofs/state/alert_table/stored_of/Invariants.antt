use Rattle.std.proofs.Common.{◌≡◌, ◌++◌, map}
use Rattle.amr_labels.specs.Set.{items}
use Rattle.amr_labels.specs.Labels.{label_set_cmp}
use Rattle.amr_tables.specs.Numbered.{map_of}
use Rattle.amr_engine.specs.Indexes.RuleSources.{pairs_of, stored_of}
use Rattle.amr_engine.proofs.state.alert_table.stored_of.Given as goal

-- those found, and those of the rest that are stored, are all
abbrev pub invariant-loop-labels : goal.invariant-loop-labels
invariant-loop-labels l =
    pairs_of l.found.items ++ stored_of (map_of label_set_cmp l.alerts) (map (λ entry. entry.0) l.labels-iterator)
    ≡ stored_of (map_of label_set_cmp l.alerts) (items l.listed)
