-- A list in order is determined by what is in it.
use Rattle.std.proofs.Common.{◌≡◌, List}
use Rattle.std.specs.List.Sorted.{IsStrictlySortedBy}
use Rattle.std.specs.declared.cmp.Ordering.{Ordering}
use Rattle.std.specs.Cmp.{IsTotalOrder}
use Rattle.std.specs.FinMap.{IsAntisymmetric}
use Rattle.std.proofs.lemmas.Map.Lookups.{btree_set_from_contains}
use Rattle.amr_tables.specs.Members.{has}

-- lists in order with the same items are the same
pub same_from_members : {D : Type 0} (R : D → D → Ordering) → IsTotalOrder R → IsAntisymmetric R → (l m : List D) → IsStrictlySortedBy R l → IsStrictlySortedBy R m → ((q : D) → has R l q ≡ has R m q) → l ≡ m
same_from_members R o exact l m s t same = btree_set_from_contains o (record { keys = l }) (record { keys = m }) s t same exact
