use Rattle.std.proofs.Common.{◌≡◌, ℕ}
use Rattle.amr_tables.specs.Earliest.{Earliest, room, IsHeld, AreKept}
use Rattle.amr_tables.proofs.earliest.Earliest.drop_first.Given as goal

abbrev pub invariant-loop-self : goal.invariant-loop-self
invariant-loop-self g l =
    let now : Earliest = record { queue = l.self-inside.queue.items; rest = l.self-inside.rest } in
    let before : Earliest = record { queue = l.initial.self-inside.queue.items; rest = l.initial.self-inside.rest } in
    record {
      queue : now.queue ≡ before.queue;
      room : room now ≡ room before;
      held : (n : ℕ) → IsHeld now n → IsHeld before n;
      kept : AreKept (g.S.Schedule.rank l.schedule) (g.S.Schedule.moments l.schedule) now;
    }

abbrev pub decreases-loop-self : goal.decreases-loop-self
decreases-loop-self g l = l.self-inside.rest.size
