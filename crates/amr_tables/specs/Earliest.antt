-- Which of the moments of numbers is the earliest.
use Rattle.std.specs.Prelude.{◌⊎◌, ◌≡◌, ◌≢◌, ℕ, ◌<◌, ◌==◌, false, List, [], ◌∷◌, Option, None, Some, IfSome, length, slice_get, if◌then◌else◌}
use Rattle.std.specs.declared.cmp.Ordering.{Ordering}
use Rattle.std.specs.declared.cmp.Ordering.TheVariants.{Greater}
use Rattle.amr_tables.specs.declared.schedule.NumberedMoment.{NumberedMoment}
use Rattle.amr_tables.specs.Moments.{is_after}
use Rattle.amr_tables.specs.Heap.{Heap, standing_at, IsInHeap, IsHeap}

-- Each moment that a number has stands in the queue, or among the rest.
pub record Earliest : Type 0 where
  pub queue : List NumberedMoment
  pub rest : Heap

-- how many numbers may have a moment
abbrev pub room : Earliest → ℕ
room e = length e.rest.entries

-- a moment of a number stands in a queue
abbrev pub StandsIn : List NumberedMoment → NumberedMoment → Type 0
StandsIn [] s = ⊥
StandsIn (first ∷ queue) s = (first ≡ s) ⊎ StandsIn queue s

-- a moment of a number stands in the queue or among the rest
abbrev pub Stands : Earliest → NumberedMoment → Type 0
Stands e s = StandsIn e.queue s ⊎ IsInHeap e.rest s

-- the number has a moment, or had one that still stands
abbrev pub IsHeld : Earliest → ℕ → Type 0
IsHeld e n = (m : ℕ) × Stands e (record { moment = m; number = n })

-- the moments as they were before that of a number changed
abbrev pub changed_back : (ℕ → Option ℕ) → ℕ → Option ℕ → ℕ → Option ℕ
changed_back moments number former n = if n == number then former else moments n

module _ (moments : ℕ → Option ℕ) where
  -- the number still has this moment
  abbrev pub IsCurrent : NumberedMoment → Type 0
  IsCurrent s = moments s.number ≡ Some s.moment

  -- there is a moment that the number doesn't have any more
  abbrev pub IsOutdated : Option NumberedMoment → Type 0
  IsOutdated None = ⊥
  IsOutdated (Some s) = IsCurrent s → ⊥

-- each moment of the first numbers is one of the second
abbrev pub AreAmong : (ℕ → Option ℕ) → (ℕ → Option ℕ) → Type 0
AreAmong few many = (s : NumberedMoment) → IsCurrent few s → IsCurrent many s

module _ (rank : ℕ → ℕ → Ordering) where
  -- no moment of a queue is after the next
  abbrev pub IsQueue : List NumberedMoment → Type 0
  IsQueue [] = Unit {0}
  IsQueue (s ∷ []) = Unit {0}
  IsQueue (s ∷ x ∷ queue) = (is_after rank (Some s) (Some x) ≡ false) × IsQueue (x ∷ queue)

  module _ (moments : ℕ → Option ℕ) where
    -- the queue and the rest have all moments, each in its order
    pub record AreKept (e : Earliest) : Type 0 where
      pub queue : IsQueue e.queue
      pub rest : IsHeap rank e.rest
      pub stands : (s : NumberedMoment) → IsCurrent moments s → Stands e s

    -- and the first of both are current
    pub record IsOrdered (e : Earliest) : Type 0 where
      pub kept : AreKept e
      pub front : IfSome (slice_get e.queue 0) (IsCurrent moments)
      pub first : IfSome (standing_at e.rest 0) (IsCurrent moments)

    -- no number has an earlier moment, and of those with the same moment the order puts none before
    abbrev pub IsEarliest : NumberedMoment → Type 0
    IsEarliest s = IsCurrent moments s × ((j x : ℕ) → moments j ≡ Some x → (s.moment < x) ⊎ ((s.moment ≡ x) × (rank s.number j ≢ Greater)))

-- the orders agree on all numbers that are held
abbrev pub AgreeOn : Earliest → (ℕ → ℕ → Ordering) → (ℕ → ℕ → Ordering) → Type 0
AgreeOn e rank other = (a b : ℕ) → IsHeld e a → IsHeld e b → rank a b ≡ other a b
