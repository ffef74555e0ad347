use Rattle.std.proofs.Common.{◌≡◌, take}
use Rattle.amr_engine.proofs.indexes.rule_source.side_of.Given as goal

abbrev pub invariant-loop-name : goal.invariant-loop-name
invariant-loop-name l = l.equal.items ≡ take l.name-index l.name-items
