use Rattle.std.proofs.Common.{◌≡◌, drop}
use Rattle.std.specs.List.{list_all}
use Rattle.amr_labels.specs.Set as set
use Rattle.amr_rules.proofs.dedup.is_subset.Given as goal

-- what is left decides
abbrev pub invariant-loop-index : goal.invariant-loop-index
invariant-loop-index l = set.is_subset l.a l.b ≡ list_all (set.contains l.b) (drop l.index l.labels-items)
