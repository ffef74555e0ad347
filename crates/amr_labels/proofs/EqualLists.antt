-- Lists are equal, item by item, exactly if they compare as equal.
use Rattle.std.proofs.Common.{◌≡◌, List, refl, Ordering}
use Rattle.std.specs.Ordering.{eq_by_cmp}
use Rattle.std.specs.Cmp.Lexicographic.{pointwise, slice_cmp, lists_ties}

pub pointwise_by_cmp : {K : Type 0} (R : K → K → Ordering) (xs ys : List K) → pointwise (eq_by_cmp R) xs ys ≡ eq_by_cmp (slice_cmp R) xs ys
pointwise_by_cmp R = lists_ties R (λ x y. refl)
