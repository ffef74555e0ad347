use Rattle.std.proofs.Common.{◌≡◌, ◌↔◌, ℕ, ◌<◌, ◌≤◌, Some, length, slice_get, sym, ap, ◌∙◌, arith}
use Rattle.std.proofs.lemmas.Bool.Decides.{nat_tests}
use Rattle.std.proofs.lemmas.Option.{gets, slice_get_within}
use Rattle.amr_tables.specs.declared.schedule.NumberedMoment.{NumberedMoment}
use Rattle.amr_tables.specs.Heap.{Heap, standing_at, swapped}
use Rattle.amr_tables.proofs.Heaping.{one_place, past_place, entered_others, entered_own}
use Rattle.amr_tables.proofs.heap.Heap.enter.Goals.{After-index-place, After-swap}
use Rattle.amr_tables.proofs.heap.Heap.enter.Goals as goal

-- the place of the number
module _ (c : After-index-place) where
  noted : slice_get c.self.inside.places.items c.args.number ≡ Some c.index-place.result.now
  noted = grind (arith, gets, c.self.invariant.all, ap (λ (h : Heap). length h.entries) c.self.view_is)

  within : c.index-place.result.now < length c.self.inside.entries.items
  within = grind (arith, slice_get_within c.self.inside.entries.items c.index-place.result.now, c.self.invariant.there c.index-place.result.now c.args.number noted)

  same : length c.self.inside.entries.items ≡ length c.args.self.now.entries
  same = ap (λ (h : Heap). length h.entries) c.self.view_is

  -- it is the place of no other
  one : (place : ℕ) (s : NumberedMoment) → standing_at c.args.self.now place ≡ Some s → (s.number ≡ c.args.number) ↔ (place ≡ c.index-place.result.now)
  one place s at = one_place c.self.invariant c.args.number c.index-place.result.now noted place s (ap (λ (h : Heap). standing_at h place) c.self.view_is ∙ at)

pub returns-then-is_some-clause-one : goal.returns-then-is_some-clause-one
returns-then-is_some-clause-one c = one (goal.at.returns-then-is_some-clause-one c).After-index-place

pub swap-requires-clause-i : goal.swap-requires-clause-i
swap-requires-clause-i c = let here = (goal.at.swap-requires-clause-i c).After-index-place in omega (arith, within here, same here)

pub swap-requires-clause-j : goal.swap-requires-clause-j
swap-requires-clause-j c =
    let here = (goal.at.swap-requires-clause-j c).After-index-place in
    let past = past_place c.args.self.now c.index-place.result.now (omega (arith, within here, same here)) c.at-former.ensures c.is_some.ensures c.if-is_some.false in
    omega (arith, past, within here, same here, ap (λ (h : Heap). h.size) c.self.view_is)

-- a number without a place in the heap gets the next one
past : (c : After-swap) → c.self.inside.size ≤ c.index-place.result.now
past c =
    let here = (goal.at.After-swap c).After-index-place in
    let past = past_place c.args.self.now c.index-place.result.now (omega (arith, within here, same here)) c.at-former.ensures c.is_some.ensures c.if-is_some.false in
    omega (arith, past, ap (λ (h : Heap). h.size) c.self.view_is)

-- of the entries before and after, as the fields have them
module _ (c : goal.After-self-1) where
  entry : (place : ℕ) → slice_get c.self-2.inside.entries.items place ≡ slice_get c.self.inside.entries.items (swapped c.index-place.result.now c.self.inside.size place)
  entry place = ap (λ (h : Heap). slice_get h.entries place) c.self-2.view_is ∙ c.swap.ensures.entries place ∙ ap (λ (h : Heap). slice_get h.entries (swapped c.index-place.result.now c.self.inside.size place)) (sym c.self.view_is)

pub invariant_of-self : goal.invariant_of-self
invariant_of-self c =
    let here = goal.at.invariant_of-self c in
    let is = c.self-2.invariant in
    record {
      noted = is.noted;
      there = is.there;
      all = is.all;
      few = omega (arith, past here.After-swap, within here.After-index-place, same here.After-index-place, c.swap.ensures.room, ap (λ (h : Heap). length h.entries) c.self-2.view_is);
    }

pub returns-clause-own : goal.returns-clause-own
returns-clause-own c =
    let here = goal.at.returns-clause-own c in
    entered_own c.self.invariant c.args.number c.index-place.result.now (noted here.After-index-place) c.self-2.inside.entries.items (past here.After-swap) (entry c)

pub returns-clause-others : goal.returns-clause-others
returns-clause-others c = λ place apart.
    let here = goal.at.returns-clause-others c in
    entered_others c.self.invariant c.args.number c.index-place.result.now (noted here.After-index-place) c.self-2.inside.entries.items (past here.After-swap) (entry c) place apart
    ∙ ap (λ (h : Heap). standing_at h place) c.self.view_is

pub returns-clause-one : goal.returns-clause-one
returns-clause-one c = λ place s at.
    let here = goal.at.returns-clause-one c in
    let one = one here.After-index-place place s at in
    let past = past here.After-swap in
    (λ number. grind (arith, nat_tests, one, past, ap (λ (h : Heap). h.size) c.self.view_is, at, number), λ last. grind (arith, nat_tests, ap (λ (h : Heap). h.size) c.self.view_is, at, last))
