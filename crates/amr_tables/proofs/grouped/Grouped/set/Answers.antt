use Rattle.std.proofs.Common.{◌≡◌, ◌+◌, ◌-◌, ◌<◌, ◌≤◌, Some, cond, length, refl, ap, ◌∙◌, arith}
use Rattle.std.specs.Prelude.{◌==◌, slice_get}
use mir.Val.{bool_byte}
use Rattle.std.proofs.Math.Seq.{map-set_same}
use Rattle.std.proofs.lemmas.Bool.Decides.{nat_tests}
use Rattle.std.proofs.lemmas.List.{length-map, set-get_or}
use Rattle.std.proofs.lemmas.Option.{gets, slice_get-map}
use Rattle.amr_tables.specs.Places.{is_marked}
use Rattle.amr_tables.specs.declared.grouped.Seat.{Seat}
use Rattle.amr_tables.specs.Grouped.{Grouped}
use Rattle.amr_tables.specs.Seats.{is_seated_in}
use Rattle.amr_tables.proofs.Present.{seating_after, present_after}
use Rattle.amr_tables.proofs.grouped.Grouped.set.Goals.{After-index_mut-row, After-from}
use Rattle.amr_tables.proofs.grouped.Grouped.set.Goals as goal

pub index_mut-row-requires : goal.index_mut-row-requires
index_mut-row-requires c = grind (arith, gets, c.self.invariant.seated.there c.args.number c.index-seat.result.now.group, length-map c.self.inside.seats.items (λ (s : Seat). s.group), ap (λ (t : Grouped). length t.homes) c.self.view_is)

-- the seat of the number, and the row of its group
at : (c : After-index_mut-row) → slice_get c.self.inside.seats.items c.args.number ≡ Some c.index-seat.result.now
at c = grind (arith, gets, length-map c.self.inside.seats.items (λ (s : Seat). s.group), ap (λ (t : Grouped). length t.homes) c.self.view_is)

found : (c : After-index_mut-row) → slice_get c.self.inside.rows.items c.index-seat.result.now.group ≡ Some c.index_mut-row.result.now
found c = grind (arith, gets, at c, c.self.invariant.seated.there c.args.number c.index-seat.result.now.group)

-- the position that the number is to get is in the row, and so are those that are in the group then
bounds : (c : After-from) → (c.index-seat.result.now.position < length c.index_mut-row.result.now.numbers.items)
    × ((c.index_mut-row.result.now.count - c.from.result < length c.index_mut-row.result.now.numbers.items)
    × (c.index_mut-row.result.now.count - c.from.result + bool_byte c.args.is_in ≤ length c.index_mut-row.result.now.numbers.items))
bounds c =
    let seat = c.index-seat.result.now in
    grind (arith, nat_tests, gets, c.self.invariant.seated.there c.args.number seat.group, c.self.invariant.counted seat.group c.index_mut-row.result.now, length-map c.self.inside.seats.items (λ (s : Seat). s.group), ap (λ (t : Grouped). length t.homes) c.self.view_is)

pub returns-then-seat-row-clause-present : goal.returns-then-seat-row-clause-present
returns-then-seat-row-clause-present c = λ k.
    let here = goal.at.returns-then-seat-row-clause-present c in
    grind (arith, nat_tests, at here.After-index_mut-row, found here.After-index_mut-row, ap (λ (t : Grouped). is_marked t.present k) c.self.view_is, slice_get-map (is_seated_in c.self.inside.rows.items) c.self.inside.seats.items k, set-get_or c.self.inside.rows.items c.index-seat.result.now.group c.index_mut-row.result.now)

pub index-other-requires : goal.index-other-requires
index-other-requires c = omega (arith, bounds (goal.at.index-other-requires c).After-from)

pub index_mut-requires : goal.index_mut-requires
index_mut-requires c = omega (arith, bounds (goal.at.index_mut-requires c).After-from)

pub index_mut-requires-2 : goal.index_mut-requires-2
index_mut-requires-2 c = omega (arith, bounds (goal.at.index_mut-requires-2 c).After-from)

pub overflow_add-row : goal.overflow_add-row
overflow_add-row c = omega (arith, bounds (goal.at.overflow_add-row c).After-from, c.from-2.ensures)

pub index_mut-requires-3 : goal.index_mut-requires-3
index_mut-requires-3 c =
    let q = c.index_mut-row.result.now.count - c.from.result in
    grind (arith, gets, bounds (goal.at.index_mut-requires-3 c).After-from, found (goal.at.index_mut-requires-3 c).After-index_mut-row, c.self.invariant.seated.homed c.index-seat.result.now.group q c.index-other.result.now)

pub invariant_of-self-2 : goal.invariant_of-self-2
invariant_of-self-2 c =
    let here = (goal.at.invariant_of-self-2 c).After-index_mut-row in
    seating_after c.self.invariant c.args.number c.args.is_in _ (at here) (found here) c.if-seat-row.false c.from.ensures c.from-2.ensures c.index-other.ensures c.index_mut-3.ensures.value refl refl c.index_mut-4.ensures.value

pub returns-clause-homes : goal.returns-clause-homes
returns-clause-homes c =
    let group = λ (seat : Seat). seat.group in
    map-set_same group _ _ _ _ (ap group c.index_mut-4.ensures.value) ∙ map-set_same group _ _ _ _ (ap group c.index_mut-3.ensures.value) ∙ ap (λ (t : Grouped). t.homes) c.self.view_is

pub returns-clause-present : goal.returns-clause-present
returns-clause-present c = λ k.
    let here = (goal.at.returns-clause-present c).After-index_mut-row in
    present_after c.self.invariant c.args.number c.args.is_in _ (at here) (found here) c.if-seat-row.false c.from.ensures c.from-2.ensures c.index-other.ensures c.index_mut-3.ensures.value refl refl c.index_mut-4.ensures.value k
    ∙ ap (λ (t : Grouped). cond (k == c.args.number) c.args.is_in (is_marked t.present k)) c.self.view_is
