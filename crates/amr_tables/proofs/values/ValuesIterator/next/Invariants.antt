use Rattle.std.proofs.Common.{◌≡◌, length}
use Rattle.amr_tables.specs.Places.{values_of}
use Rattle.amr_tables.proofs.values.ValuesIterator.next.Given as goal

-- what is left is what there was at first, for the places passed have no value
abbrev pub invariant-loop-cell : goal.invariant-loop-cell
invariant-loop-cell g l = values_of l.self-inside.cells.now ≡ l.fn.self

abbrev pub decreases-loop-cell : goal.decreases-loop-cell
decreases-loop-cell g l = length l.self-inside.cells.now
