use Rattle.std.proofs.Common.{◌≡◌, ◌-◌, ◌+◌, ◌++◌, length, replicate, None}
use Rattle.amr_tables.proofs.places.make_place.Given as goal

abbrev pub invariant-loop-places : goal.invariant-loop-places
invariant-loop-places g l = l.places.items ≡ l.fn.places.items ++ replicate (length l.places.items - length l.fn.places.items) None

abbrev pub decreases-loop-places : goal.decreases-loop-places
decreases-loop-places g l = l.number + 1 - length l.places.items
