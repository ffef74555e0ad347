use Rattle.std.proofs.Common.{◌≡◌, ◌≢◌, ℕ, Some, slice_get, slice_set, ap, ◌∙◌, arith}
use Rattle.std.specs.Prelude.{◌==◌, if◌then◌else◌}
use Rattle.std.proofs.lemmas.Bool.Decides.{nat_tests}
use Rattle.amr_tables.specs.Heap.{Heap, standing_at, number_at}
use Rattle.amr_tables.proofs.Present.{get_set}
use Rattle.amr_tables.proofs.Heaping.{placed_again, inserted, rising, sinking}
use Rattle.amr_tables.proofs.heap.Heap.insert.Given.{Over}
use Rattle.amr_tables.proofs.heap.Heap.insert.Goals.{After-index_mut}
use Rattle.amr_tables.proofs.heap.Heap.insert.Goals as goal

module _ (g : Over) (c : After-index_mut g) where
  own : number_at c.self.inside.entries.items c.enter-place.result.0 ≡ Some c.args.standing.number
  own = ap (λ (h : Heap). number_at h.entries c.enter-place.result.0) c.self.view_is ∙ c.enter-place.ensures.own

  -- the heap in which the moment stands at its place
  abbrev again : Heap
  again = record { entries = slice_set c.self.inside.entries.items c.enter-place.result.0 c.args.standing; size = c.self.inside.size }

  set : (k : ℕ) → slice_get again.entries k ≡ (if k == c.enter-place.result.0 then Some c.args.standing else slice_get c.self.inside.entries.items k)
  set = get_set c.self.inside.entries.items c.enter-place.result.0 c.args.standing (omega (arith, c.enter-place.ensures.within, c.self.invariant.few, ap (λ (h : Heap). h.size) c.self.view_is))

  here : standing_at again c.enter-place.result.0 ≡ Some c.args.standing
  here = grind (arith, nat_tests, set c.enter-place.result.0, c.enter-place.ensures.within, ap (λ (h : Heap). h.size) c.self.view_is)

  others : (k : ℕ) → k ≢ c.enter-place.result.0 → standing_at again k ≡ standing_at c.args.self.now k
  others k apart = grind (arith, nat_tests, set k, c.enter-place.ensures.others k apart, ap (λ (h : Heap). standing_at h k) c.self.view_is, apart)

pub invariant_of-self : goal.invariant_of-self
invariant_of-self g c = placed_again c.enter-place.result.0 c.args.standing c.self.invariant (own g (goal.at.invariant_of-self g c).After-index_mut)

pub invariant_of-self-else-is_after : goal.invariant_of-self-else-is_after
invariant_of-self-else-is_after g c = placed_again c.enter-place.result.0 c.args.standing c.self.invariant (own g (goal.at.invariant_of-self-else-is_after g c).After-index_mut)

pub raise-requires-clause-kept : goal.raise-requires-clause-kept
raise-requires-clause-kept g c =
    let d = (goal.at.raise-requires-clause-kept g c).After-index_mut in
    rising c.args.self.now _ c.enter-place.result.0 c.args.standing (here g d) (others g d) (g.S.Schedule.ranked c.args.schedule.now) c.requires.kept (grind (arith, c.is_after.ensures, c.enter-place.ensures.former, c.if-is_after.true))

pub sink-requires : goal.sink-requires
sink-requires g c =
    let d = (goal.at.sink-requires g c).After-index_mut in
    sinking c.args.self.now _ c.enter-place.result.0 c.args.standing (here g d) (others g d) (g.S.Schedule.ranked c.args.schedule.now) c.requires.kept (grind (arith, c.is_after.ensures, c.enter-place.ensures.former, c.if-is_after.false))

pub returns-then-is_after-clause-inserted : goal.returns-then-is_after-clause-inserted
returns-then-is_after-clause-inserted g c =
    let d = (goal.at.returns-then-is_after-clause-inserted g c).After-index_mut in
    inserted c.args.self.now _ c.enter-place.result.0 c.args.standing (here g d) (others g d) _ c.enter-place.ensures.one c.raise.ensures.same

pub returns-else-is_after-clause-inserted : goal.returns-else-is_after-clause-inserted
returns-else-is_after-clause-inserted g c =
    let d = (goal.at.returns-else-is_after-clause-inserted g c).After-index_mut in
    inserted c.args.self.now _ c.enter-place.result.0 c.args.standing (here g d) (others g d) _ c.enter-place.ensures.one c.sink.ensures.same
