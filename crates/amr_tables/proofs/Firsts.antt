-- The first of a queue and the first of the rest: the earlier is the earliest of all.
use Rattle.std.proofs.Common.{◌≡◌, ◌≢◌, inl, inr, ℕ, ◌<◌, false, List, [], ◌∷◌, Option, Some, None, Greater, IfSome, IfNone, refl, sym, ap, ◌∙◌, arith}
use Rattle.std.specs.Prelude.{◌⊎◌, slice_get}
use Rattle.std.proofs.Math.Logic.{⊎_elim, ⊎_map}
use Rattle.std.proofs.lemmas.Bool.Decides.{nat_tests}
use Rattle.std.specs.declared.cmp.Ordering.{Ordering}
use Rattle.std.specs.Ordering.{nat_cmp, ordering_then, is_gt}
use Rattle.std.specs.Cmp.{IsTotalOrder}
use Rattle.amr_tables.specs.declared.schedule.NumberedMoment.{NumberedMoment}
use Rattle.amr_tables.specs.Moments.{is_after}
use Rattle.amr_tables.specs.Heap.{standing_at, IsInHeap, IsRemoved, IsHeap}
use Rattle.amr_tables.specs.Earliest.{Earliest, changed_back, StandsIn, Stands, IsHeld, IsCurrent, IsOutdated, IsQueue, AreKept, IsOrdered, IsEarliest, AgreeOn}
use Rattle.amr_tables.proofs.Heaping.{after_order, first_of, heap_agrees}

-- ---- the earliest of all

module _ {rank : ℕ → ℕ → Ordering} (order : IsTotalOrder rank) where
  abbrev NotAfter : Option NumberedMoment → Option NumberedMoment → Type 0
  NotAfter a b = is_after rank a b ≡ false

  queue_least : (first : NumberedMoment) (queue : List NumberedMoment) → IsQueue rank (first ∷ queue) → (s : NumberedMoment) → StandsIn (first ∷ queue) s → NotAfter (Some first) (Some s)
  queue_least first [] is s h = grind (arith, (after_order order).one_way (Some first) (Some first), h)
  queue_least first (x ∷ queue) is s h = let rest = queue_least x queue is.1 s in grind (arith, (after_order order).one_way (Some first) (Some first), (after_order order).chain (Some first) (Some x) (Some s), rest, is.0, h)

  front_least : (queue : List NumberedMoment) → IsQueue rank queue → (s : NumberedMoment) → StandsIn queue s → NotAfter (slice_get queue 0) (Some s)
  front_least [] is s h = absurd h
  front_least (x ∷ queue) is s h = queue_least x queue is s h

  -- none is after those of both that are first
  both_least : (moments : ℕ → Option ℕ) (e : Earliest) → AreKept rank moments e → (first : Option NumberedMoment) → NotAfter first (slice_get e.queue 0) → NotAfter first (standing_at e.rest 0) → (s : NumberedMoment) → IsCurrent moments s → NotAfter first (Some s)
  both_least moments e kept first front rest s at =
      ⊎_elim (λ in_queue. (after_order order).chain first _ (Some s) front (front_least e.queue kept.queue s in_queue))
      (λ in_heap. (after_order order).chain first _ (Some s) rest (rw (sym in_heap.1) (first_of (after_order order) (standing_at e.rest) (standing_at e.rest) kept.rest in_heap.0))) (kept.stands s at)

  -- what none is before is the earliest, and if it is missing there is none
  pub least_is : (moments : ℕ → Option ℕ) (e : Earliest) → IsOrdered rank moments e → (first : Option NumberedMoment) → IfSome first (IsCurrent moments) → NotAfter first (slice_get e.queue 0) → NotAfter first (standing_at e.rest 0)
      → IfSome first (IsEarliest rank moments)
  least_is moments e is None now front rest = tt
  least_is moments e is (Some v) now front rest = (now, λ j x at. not_before v.moment x (rank v.number j) (both_least moments e is.kept (Some v) front rest (record { moment = x; number = j }) at))
    where
      not_before : (m x : ℕ) (r : Ordering) → is_gt (ordering_then (nat_cmp m x) r) ≡ false → (m < x) ⊎ ((m ≡ x) × (r ≢ Greater))
      not_before m x r h = grind (arith, nat_tests, h)

  pub none_is : (moments : ℕ → Option ℕ) (e : Earliest) → AreKept rank moments e → (first : Option NumberedMoment) → NotAfter first (slice_get e.queue 0) → NotAfter first (standing_at e.rest 0) → IfNone first ((n : ℕ) → moments n ≡ None)
  none_is moments e kept (Some v) front rest = tt
  none_is moments e kept None front rest = λ n.
      let nothing : (m : ℕ) → moments n ≡ Some m → ⊥ = λ m at. grind (arith, both_least moments e kept None front rest (record { moment = m; number = n }) at) in
      grind (arith, nothing)

-- ---- a first one that isn't current leaves

outdated : (moments : ℕ → Option ℕ) (o : Option NumberedMoment) (s : NumberedMoment) → o ≡ Some s → IsCurrent moments s → IsOutdated moments o → ⊥
outdated moments o s is at out = grind (arith, is, at, out)

pub first_leaves : (moments : ℕ → Option ℕ) (rank : ℕ → ℕ → Ordering) (e u : Earliest) → u.queue ≡ e.queue → IsRemoved e.rest u.rest → IsHeap rank u.rest → IsOutdated moments (standing_at e.rest 0) → AreKept rank moments e → AreKept rank moments u
first_leaves moments rank e u queue gone heap out kept = record {
  queue = rw queue kept.queue;
  rest = heap;
  stands = λ s at. ⊎_map (λ h. rw queue h) (λ h. gone.kept s (λ is. outdated moments (standing_at e.rest 0) s is at out) h) (kept.stands s at);
}

-- ---- a number gets another moment

module _ (moments : ℕ → Option ℕ) (n : ℕ) where
  -- the other numbers keep theirs
  pub apart_from : (former : Option ℕ) (k : ℕ) → k ≢ n → changed_back moments n former k ≡ moments k
  apart_from former k apart = grind (arith, nat_tests, apart)

  -- a moment that it has already changes nothing
  pub changed_nothing : (former : Option ℕ) → moments n ≡ former → changed_back moments n former ≡ moments
  changed_nothing former is =
      let each : (k : ℕ) → changed_back moments n former k ≡ moments k = λ k. grind (arith, nat_tests, is) in
      λ i k. each k i

  -- without its moment, the others have theirs
  pub without : (rank : ℕ → ℕ → Ordering) (former : Option ℕ) (e : Earliest) → AreKept rank (changed_back moments n former) e → AreKept rank (changed_back moments n None) e
  without rank former e kept = record { queue = kept.queue; rest = kept.rest; stands = λ s at. kept.stands s (grind (arith, at)) }

-- a shorter queue, with the same moments among the rest, holds no other number
pub held_shorter : (e u : Earliest) → ((s : NumberedMoment) → IsInHeap u.rest s → IsInHeap e.rest s) → ((s : NumberedMoment) → StandsIn u.queue s → StandsIn e.queue s) → (n : ℕ) → IsHeld u n → IsHeld e n
held_shorter e u rest queue n (m, stands) = (m, ⊎_map (queue _) (rest _) stands)

-- ---- another order of the same numbers

module _ (rank other : ℕ → ℕ → Ordering) (e : Earliest) (agree : AgreeOn e rank other) where
  agrees : (a b : NumberedMoment) → Stands e a → Stands e b → is_after other (Some a) (Some b) ≡ is_after rank (Some a) (Some b)
  agrees a b p q = ap (λ o. is_gt (ordering_then (nat_cmp a.moment b.moment) o)) (sym (agree a.number b.number (a.moment, p) (b.moment, q)))

  queue_agrees : (queue : List NumberedMoment) → ((s : NumberedMoment) → StandsIn queue s → Stands e s) → IsQueue rank queue → IsQueue other queue
  queue_agrees [] all is = tt
  queue_agrees (s ∷ []) all is = tt
  queue_agrees (s ∷ x ∷ queue) all is = (agrees s x (all s (inl refl)) (all x (inr (inl refl))) ∙ is.0, queue_agrees (x ∷ queue) (λ y h. all y (inr h)) is.1)

  -- all stands under another order that agrees on all numbers that are held
  pub ordered_agrees : (moments : ℕ → Option ℕ) → IsOrdered rank moments e → IsOrdered other moments e
  ordered_agrees moments is = record {
    kept = record {
      queue = queue_agrees e.queue (λ s h. inl h) is.kept.queue;
      rest = heap_agrees rank other e.rest (λ a b p q. agrees a b (inr p) (inr q)) is.kept.rest;
      stands = is.kept.stands;
    };
    front = is.front;
    first = is.first;
  }
