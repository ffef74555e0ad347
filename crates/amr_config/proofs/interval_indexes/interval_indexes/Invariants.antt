use Rattle.std.proofs.Common.{◌≡◌, drop}
use Rattle.std.specs.BTreeMap as tree
use Rattle.amr_labels.specs.Labels.{Text, text_cmp}
use Rattle.amr_config.specs.Intervals.{interval_at, interval_named}
use Rattle.amr_config.proofs.interval_indexes.interval_indexes.Given as goal

abbrev pub invariant-loop-index : goal.invariant-loop-index
invariant-loop-index l =
    (name : Text) → interval_at l.intervals (tree.get text_cmp l.indexes name) ≡ interval_named (drop l.index l.intervals) name
