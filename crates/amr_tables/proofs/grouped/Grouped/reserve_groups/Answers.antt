use Rattle.std.proofs.Common.{refl}
use Rattle.amr_tables.proofs.Present.{seating_more}
use Rattle.amr_tables.proofs.grouped.Grouped.reserve_groups.Goals as goal

pub invariant_of-self-2 : goal.invariant_of-self-2
invariant_of-self-2 c = rw c.in_ok-push.ensures.items (seating_more c.self.inside.rows.items _ c.new.ensures.items refl c.self.invariant)
