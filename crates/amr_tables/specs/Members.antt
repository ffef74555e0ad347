-- What is in a list.
use Rattle.std.specs.Prelude.{Bool, List}
use Rattle.std.specs.List.{list_any}
use Rattle.std.specs.declared.cmp.Ordering.{Ordering}
use Rattle.std.specs.Ordering.{eq_by_cmp}

-- whether the item, or one that compares equal to it, is in the list
abbrev pub has : {D : Type 0} → (D → D → Ordering) → List D → D → Bool
has cmp items item = list_any (eq_by_cmp cmp item) items
