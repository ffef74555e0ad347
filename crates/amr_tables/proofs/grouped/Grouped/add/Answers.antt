use Rattle.std.proofs.Common.{◌≡◌, ◌++◌, ◌∷◌, [], Bool, Some, false, length, refl, ap, ◌∙◌, arith}
use Rattle.std.specs.Prelude.{slice_get}
use Rattle.std.proofs.lemmas.List.{length-map}
use Rattle.std.proofs.lemmas.Option.{gets, slice_get_past}
use Rattle.amr_tables.specs.Grouped.{Grouped}
use Rattle.amr_tables.proofs.Present.{seating_next, present_next}
use Rattle.amr_tables.proofs.grouped.Grouped.add.Goals as goal

-- the row of the group
found : (c : goal.After-push_reserved-2) → slice_get c.self.inside.rows.items c.args.group ≡ Some c.index_mut-row.result.now
found c = grind (arith, gets, slice_get_past c.args.self.now.rooms c.args.group, length-map {B = Bool} c.self.inside.rows.items, ap (λ (t : Grouped). length t.rooms) c.self.view_is)

pub invariant_of-self : goal.invariant_of-self
invariant_of-self c =
    rw c.push_reserved-2.ensures.items
    (seating_next c.self.invariant c.args.group _ (found c) (omega (arith, c.len-number.ensures)) (omega (arith, c.len-position.ensures)) c.push_reserved.ensures.items refl)

pub returns-clause-present : goal.returns-clause-present
returns-clause-present c =
    rw c.push_reserved-2.ensures.items
    (present_next c.self.invariant c.args.group _ (found c) (omega (arith, c.len-number.ensures)) (omega (arith, c.len-position.ensures)) c.push_reserved.ensures.items refl
    ∙ ap (λ (t : Grouped). t.present ++ false ∷ []) c.self.view_is)
