-- Moments with the numbers that have them, and which of two is first.
use Rattle.std.specs.Prelude.{ℕ, Bool, true, false, Option, None, Some}
use Rattle.std.specs.declared.cmp.Ordering.{Ordering}
use Rattle.std.specs.Ordering.{nat_cmp, ordering_then, is_gt}
use Rattle.amr_tables.specs.declared.schedule.NumberedMoment.{NumberedMoment}

-- the first is later than the second or, if they are equal, the order puts its number after the
-- other; a missing one is after all others
abbrev pub is_after : (ℕ → ℕ → Ordering) → Option NumberedMoment → Option NumberedMoment → Bool
is_after rank (Some a) (Some b) = is_gt (ordering_then (nat_cmp a.moment b.moment) (rank a.number b.number))
is_after rank (Some a) None = false
is_after rank None (Some b) = true
is_after rank None None = false
