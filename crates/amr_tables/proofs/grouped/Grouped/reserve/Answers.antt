use Rattle.std.proofs.Common.{◌≡◌, Some, Bool, length, refl, ap, ◌∙◌, arith}
use Rattle.std.specs.Prelude.{slice_get}
use Rattle.std.proofs.lemmas.Bool.Decides.{nat_tests}
use Rattle.std.proofs.lemmas.List.{length-map}
use Rattle.std.proofs.lemmas.Option.{gets, slice_get-map}
use Rattle.amr_tables.specs.Grouped.{Grouped}
use Rattle.amr_tables.proofs.Present.{seating_kept, present_same, count_kept, set_row}
use Rattle.amr_tables.proofs.grouped.Grouped.reserve.Goals.{After-index_mut}
use Rattle.amr_tables.proofs.grouped.Grouped.reserve.Goals as goal

-- the row of the group
found : (c : After-index_mut) → slice_get c.self.inside.rows.items c.args.group ≡ Some c.index_mut.result.now
found c = grind (arith, gets, length-map {B = Bool} c.self.inside.rows.items, ap (λ (t : Grouped). length t.rooms) c.self.view_is)

pub invariant_of-self-2 : goal.invariant_of-self-2
invariant_of-self-2 c =
    let here = (goal.at.invariant_of-self-2 c).After-index_mut in
    rw c.in_ok-reserve.ensures.items (seating_kept c.self.inside.rows.items c.args.group _ (found here) c.reserve-2.ensures.items refl c.self.invariant)

pub returns-clause-room : goal.returns-clause-room
returns-clause-room c =
    let here = (goal.at.returns-clause-room c).After-index_mut in
    grind (arith, nat_tests, set_row c.self.inside.rows.items c.args.group (record { numbers = c.reserve-2.new.self; count = c.index_mut.result.now.count }) (found here), slice_get-map, c.in_ok-reserve.ensures.ok, c.reserve-2.ensures.ok)

pub returns-clause-present : goal.returns-clause-present
returns-clause-present c =
    let here = (goal.at.returns-clause-present c).After-index_mut in
    rw c.in_ok-reserve.ensures.items (present_same _ c.self.inside.rows.items _ (count_kept c.self.inside.rows.items c.args.group _ (found here) refl) ∙ ap (λ (t : Grouped). t.present) c.self.view_is)
