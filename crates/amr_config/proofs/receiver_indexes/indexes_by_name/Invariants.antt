use Rattle.std.proofs.Common.{◌≡◌, drop}
use Rattle.std.specs.BTreeMap as tree
use Rattle.amr_labels.specs.Labels.{Text, text_cmp}
use Rattle.amr_config.specs.Receivers.{receiver_at, receiver_named}
use Rattle.amr_config.proofs.receiver_indexes.indexes_by_name.Given as goal

abbrev pub invariant-loop-index : goal.invariant-loop-index
invariant-loop-index l =
    (name : Text) → receiver_at l.receivers (tree.get text_cmp l.indexes name) ≡ receiver_named (drop l.index l.receivers) name
