use Rattle.std.proofs.Common.{◌≡◌, ◌<◌, ◌/◌, ◌-◌, true, ◌∙◌, arith}
use Rattle.amr_tables.specs.Moments.{is_after}
use Rattle.amr_tables.specs.Heap.{standing_at, IsBelow}
use Rattle.amr_tables.proofs.Heaping.{hold_swapped, hold_same, risen}
use Rattle.amr_tables.proofs.heap.Heap.raise.Goals as goal

pub loop-place-preserved : goal.loop-place-preserved
loop-place-preserved g c =
    let h = c.loop-place.self in
    let u = c.swap.new.self in
    let place = c.loop-place.place in
    let above = (place - 1) / 2 in
    let some = c.loop-place-test.true in
    let edge : IsBelow above place = grind (arith, some) in
    let after : is_after (g.S.Schedule.rank c.args.schedule.now) (standing_at h above) (standing_at h place) ≡ true = grind (arith, c.is_after.ensures, c.at.ensures, c.at-in-loop-place.ensures, c.if-not-is_after.false) in
    let within = c.loop-place.invariant.within in
    let lower : above < h.size = omega (arith, some, within) in
    record {
      within = omega (arith, some, within, c.swap.ensures.size);
      room = c.swap.ensures.room ∙ c.loop-place.invariant.room;
      same = hold_same c.args.self.now h u c.loop-place.invariant.same (hold_swapped h u above place lower within c.swap.ensures.size c.swap.ensures.entries);
      kept = risen h u above place lower within c.swap.ensures.size c.swap.ensures.entries (g.S.Schedule.ranked c.args.schedule.now) edge after c.loop-place.invariant.kept;
    }
