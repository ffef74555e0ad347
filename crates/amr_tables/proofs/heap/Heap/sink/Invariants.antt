use Rattle.std.proofs.Common.{◌≡◌, ◌-◌, length}
use Rattle.amr_tables.specs.Heap.{HoldSame, MaySink}
use Rattle.amr_tables.proofs.heap.Heap.sink.Given as goal

abbrev pub invariant-loop-below : goal.invariant-loop-below
invariant-loop-below g l = record {
  room : length l.self.entries ≡ length l.initial.self.entries;
  size : l.self.size ≡ l.initial.self.size;
  same : HoldSame l.initial.self l.self;
  kept : MaySink (g.S.Schedule.rank l.schedule) l.self l.place;
}

abbrev pub decreases-loop-below : goal.decreases-loop-below
decreases-loop-below g l = l.self.size - l.place
