use Rattle.std.proofs.Common.{◌≡◌, ◌++◌, map, drop}
use Rattle.std.specs.Map.Iter.{deref_pair}
use Rattle.std.specs.Ordering.{nat_cmp}
use Rattle.amr_tables.specs.Numbered.{map_of}
use Rattle.amr_rules.specs.SilencePeriods.{unexpired_of, unexpired_silences}
use Rattle.amr_rules.proofs.silence_period.unexpired.Given as goal

-- those so far and those of what is left are all
abbrev pub invariant-loop-id : goal.invariant-loop-id
invariant-loop-id l = l.listed.items ++ unexpired_of l.from (map deref_pair (drop l.id-index l.id-items)) ≡ unexpired_silences l.from (map_of nat_cmp l.silences)
