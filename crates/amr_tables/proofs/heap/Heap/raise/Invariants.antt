use Rattle.std.proofs.Common.{◌≡◌, ◌<◌, length}
use Rattle.amr_tables.specs.Heap.{HoldSame, MayRise}
use Rattle.amr_tables.proofs.heap.Heap.raise.Given as goal

abbrev pub invariant-loop-place : goal.invariant-loop-place
invariant-loop-place g l = record {
  within : l.place < l.self.size;
  room : length l.self.entries ≡ length l.initial.self.entries;
  same : HoldSame l.initial.self l.self;
  kept : MayRise (g.S.Schedule.rank l.schedule) l.self l.place;
}

abbrev pub decreases-loop-place : goal.decreases-loop-place
decreases-loop-place g l = l.place
