use Rattle.std.proofs.Common.{◌≡◌, ◌-◌, ℕ, slice_get, refl, subst, sym, ap, ◌∙◌, arith}
use Rattle.amr_tables.specs.Heap.{Heap, swapped, IsHeap, IsRemoved}
use Rattle.amr_tables.proofs.Heaping.{removed, sinking_last}
use Rattle.amr_tables.proofs.heap.Heap.remove_first.Goals.{After-self-2}
use Rattle.amr_tables.proofs.heap.Heap.remove_first.Given.{Over}
use Rattle.amr_tables.proofs.heap.Heap.remove_first.Goals as goal

module _ (g : Over) (c : After-self-2 g) where
  entry : (k : ℕ) → slice_get c.self-2.inside.entries.items k ≡ slice_get c.self.inside.entries.items (swapped 0 (c.self.inside.size - 1) k)
  entry k = ap (λ (h : Heap). slice_get h.entries k) c.self-2.view_is ∙ c.swap.ensures.entries k ∙ ap (λ (h : Heap). slice_get h.entries (swapped 0 (c.self.inside.size - 1) k)) (sym c.self.view_is)

pub sink-requires : goal.sink-requires
sink-requires g c =
    let before = c.self.view_is in
    sinking_last (record { entries = c.self.inside.entries.items; size = c.self.inside.size }) _ c.self.invariant (omega (arith, c.requires.some, ap (λ (h : Heap). h.size) before)) refl (entry g (goal.at.sink-requires g c).After-self-2)
    (subst (IsHeap (g.S.Schedule.rank c.args.schedule.now)) (sym before) c.requires.kept)

pub returns-clause-removed : goal.returns-clause-removed
returns-clause-removed g c =
    let before = c.self.view_is in
    let here = (goal.at.returns-clause-removed g c).After-self-2 in
    subst (λ h. IsRemoved h c.sink.new.self) before
    (removed (record { entries = c.self.inside.entries.items; size = c.self.inside.size }) _ c.self.invariant (omega (arith, c.requires.some, ap (λ (h : Heap). h.size) before)) refl (entry g here) c.sink.new.self c.sink.ensures.same)
