use Rattle.std.proofs.Common.{Bool, length, ap, arith}
use Rattle.std.proofs.lemmas.Option.{gets}
use Rattle.std.proofs.lemmas.List.{length-map}
use Rattle.amr_tables.specs.Grouped.{Grouped}
use Rattle.amr_tables.proofs.Present.{front_are}
use Rattle.amr_tables.proofs.grouped.Grouped.numbers_of.Goals as goal

pub returns : goal.returns
returns c =
    rw c.as_slice.ensures.value
    (front_are c.args.self.now c.self.invariant c.args.group {row = c.index-row.result.now} (grind (arith, gets, length-map {B = Bool} c.self.inside.rows.items, ap (λ (t : Grouped). length t.rooms) c.self.view_is))
    (ap (λ (t : Grouped). t.homes) c.self.view_is) (ap (λ (t : Grouped). t.present) c.self.view_is))
