use Rattle.std.proofs.Common.{◌≡◌, map, drop}
use Rattle.std.specs.List.{find}
use Rattle.std.specs.Map.Iter.{deref_pair}
use Rattle.amr_labels.specs.Map.{entries}
use Rattle.std.specs.Ordering.{nat_cmp}
use Rattle.amr_tables.specs.Numbered.{map_of}
use Rattle.amr_rules.specs.Muting.{silences_labels}
use Rattle.amr_rules.proofs.muting.silenced_by.Given as goal

-- the first of what is left is the first of all
abbrev pub invariant-loop-id : goal.invariant-loop-id
invariant-loop-id l =
    find (λ stored. silences_labels l.now stored.1 l.labels) (map deref_pair (drop l.id-index l.id-items))
    ≡ find (λ stored. silences_labels l.now stored.1 l.labels) (entries (map_of nat_cmp l.silences))
