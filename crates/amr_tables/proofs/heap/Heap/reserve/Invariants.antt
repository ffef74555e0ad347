use Rattle.std.proofs.Common.{◌≡◌, ◌-◌, ◌≤◌, ℕ, length}
use Rattle.amr_tables.specs.Heap.{standing_at}
use Rattle.amr_tables.proofs.heap.Heap.reserve.Given as goal

abbrev pub invariant-loop-self : goal.invariant-loop-self
invariant-loop-self l = record {
  more : length l.initial.self.entries ≤ length l.self.entries;
  same : (place : ℕ) → standing_at l.self place ≡ standing_at l.initial.self place;
}

abbrev pub decreases-loop-self : goal.decreases-loop-self
decreases-loop-self l = l.count - length l.self.entries
