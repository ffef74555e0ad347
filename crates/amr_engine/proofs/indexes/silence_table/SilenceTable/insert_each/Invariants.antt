use Rattle.std.proofs.Common.{◌≡◌}
use Rattle.amr_engine.proofs.indexes.silence_table.SilenceTable.insert_each.Given as goal

abbrev pub invariant-loop-index : goal.invariant-loop-index
invariant-loop-index l = l.self ≡ l.initial.self
