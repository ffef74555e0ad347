use Rattle.std.proofs.Common.{◌≡◌, ◌<◌, Some, length, slice_get, ap, ◌∙◌, arith}
use Rattle.std.proofs.lemmas.Option.{gets, slice_get_within}
use Rattle.amr_tables.specs.Heap.{Heap, number_at, swapped}
use Rattle.amr_tables.proofs.Heaping.{swapped_get, placed_swapped}
use Rattle.amr_tables.proofs.heap.Heap.swap.Goals.{After-index-2}
use Rattle.amr_tables.proofs.heap.Heap.swap.Goals as goal

module _ (c : After-index-2) where
  bounds : (c.args.i < length c.self.inside.entries.items) × (c.args.j < length c.self.inside.entries.items)
  bounds = let same = ap (λ (h : Heap). length h.entries) c.self.view_is in omega (arith, same)

  -- the numbers at the two places
  first : number_at c.self.inside.entries.items c.args.i ≡ Some c.index.result.now.number
  first = grind (arith, gets, bounds)

  second : number_at c.self.inside.entries.items c.args.j ≡ Some c.index-2.result.now.number
  second = grind (arith, gets, bounds)

  -- their places are noted
  noted : (c.index.result.now.number < length c.self.inside.places.items) × (c.index-2.result.now.number < length c.self.inside.places.items)
  noted = (slice_get_within _ _ _ (c.self.invariant.noted _ _ first), slice_get_within _ _ _ (c.self.invariant.noted _ _ second))

pub swap-requires-clause-i_in_bounds : goal.swap-requires-clause-i_in_bounds
swap-requires-clause-i_in_bounds c = omega (arith, (noted (goal.at.swap-requires-clause-i_in_bounds c).After-index-2).0)

pub swap-requires-clause-j_in_bounds : goal.swap-requires-clause-j_in_bounds
swap-requires-clause-j_in_bounds c = omega (arith, (noted (goal.at.swap-requires-clause-j_in_bounds c).After-index-2).1)

pub invariant_of-self : goal.invariant_of-self
invariant_of-self c =
    let here = (goal.at.invariant_of-self c).After-index-2 in
    let n = c.index.result.now.number in
    let m = c.index-2.result.now.number in
    placed_swapped c.args.i c.args.j n m c.self.invariant (first here) (second here) (omega arith) (omega arith)
    (swapped_get _ _ c.args.i c.args.j c.index.result.now (bounds here).0 (bounds here).1 (omega arith) c.swap-2.ensures.by_index)
    (swapped_get _ _ n m 0 (noted here).0 (noted here).1 (omega arith) c.swap.ensures.by_index)

pub returns-clause-entries : goal.returns-clause-entries
returns-clause-entries c = λ place.
    let here = (goal.at.returns-clause-entries c).After-index-2 in
    swapped_get _ _ c.args.i c.args.j c.index.result.now (bounds here).0 (bounds here).1 (omega arith) c.swap-2.ensures.by_index place
    ∙ ap (λ (h : Heap). slice_get h.entries (swapped c.args.i c.args.j place)) c.self.view_is
