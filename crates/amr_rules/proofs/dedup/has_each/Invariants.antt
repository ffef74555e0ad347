use Rattle.std.proofs.Common.{◌≡◌, map, drop}
use Rattle.std.specs.List.{list_all}
use Rattle.amr_labels.specs.Set as set
use Rattle.amr_rules.proofs.dedup.has_each.Given as goal

-- what is left decides
abbrev pub invariant-loop-index : goal.invariant-loop-index
invariant-loop-index l = list_all (set.contains l.fired) (map (λ alert. alert.0) l.alerts) ≡ list_all (set.contains l.fired) (map (λ alert. alert.0) (drop l.index l.alerts))
