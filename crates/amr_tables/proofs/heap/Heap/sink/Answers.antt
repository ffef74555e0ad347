use Rattle.std.proofs.Common.{◌<◌, ◌∙◌, arith}
use Rattle.std.proofs.lemmas.Bool.Decides.{nat_tests}
use Rattle.amr_tables.proofs.Heaping.{hold_swapped, hold_same, sunk}
use Rattle.amr_tables.proofs.heap.Heap.sink.Goals as goal

pub loop-below-preserved : goal.loop-below-preserved
loop-below-preserved g c =
    let h = c.loop-below.self in
    let u = c.swap.new.self in
    let place = c.loop-below.place in
    let below = c.in-Some.below in
    let first = c.in-Some.ensures.some in
    let there : below < h.size = grind (arith, nat_tests, first.after) in
    let within : place < h.size = grind (arith, first.below, there) in
    record {
      room = c.swap.ensures.room ∙ c.loop-below.invariant.room;
      size = c.swap.ensures.size ∙ c.loop-below.invariant.size;
      same = hold_same c.args.self.now h u c.loop-below.invariant.same (hold_swapped h u place below within there c.swap.ensures.size c.swap.ensures.entries);
      kept = sunk h u place below within there c.swap.ensures.size c.swap.ensures.entries (g.S.Schedule.ranked c.args.schedule.now) first.below first.after first.first c.loop-below.invariant.kept;
    }
