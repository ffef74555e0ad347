use Rattle.std.proofs.Common.{◌≡◌, take}
use Rattle.amr_engine.specs.Indexes.LabelValues.{label_values}
use Rattle.amr_engine.proofs.indexes.label_values.LabelValues.of.Given as goal

abbrev pub invariant-loop-name : goal.invariant-loop-name
invariant-loop-name l = l.texts ≡ label_values (take l.name-index l.names) l.labels
