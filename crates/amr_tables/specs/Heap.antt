-- Moments of numbers in a heap, in which no moment is after one below it.
use Rattle.std.specs.Prelude.{◌≡◌, ◌≢◌, ◌==◌, ◌↔◌, ◌⊎◌, ℕ, ◌≤◌, ◌+◌, ◌*◌, true, false, List, Option, Some, None, length, nat_lt, slice_get, option_map, if◌then◌else◌}
use Rattle.std.specs.declared.cmp.Ordering.{Ordering}
use Rattle.amr_tables.specs.declared.schedule.NumberedMoment.{NumberedMoment}
use Rattle.amr_tables.specs.Moments.{is_after}

-- An entry for each number, and how many of them, in front, stand in the heap.
pub record Heap : Type 0 where
  pub entries : List NumberedMoment
  pub size : ℕ

-- the moment at a place of the heap
abbrev pub standing_at : Heap → ℕ → Option NumberedMoment
standing_at heap place = if nat_lt place heap.size then slice_get heap.entries place else None

-- the moment stands in the heap
abbrev pub IsInHeap : Heap → NumberedMoment → Type 0
IsInHeap heap s = (place : ℕ) × (standing_at heap place ≡ Some s)

-- the same moments stand in both
abbrev pub HoldSame : Heap → Heap → Type 0
HoldSame a b = (s : NumberedMoment) → IsInHeap a s ↔ IsInHeap b s

-- The second has this moment, and those of the first but for the one of its number.
pub record IsInserted (standing : NumberedMoment) (before after : Heap) : Type 0 where
  pub stands : IsInHeap after standing
  pub kept : (s : NumberedMoment) → s.number ≢ standing.number → IsInHeap before s → IsInHeap after s
  pub only : (s : NumberedMoment) → IsInHeap after s → (s ≡ standing) ⊎ ((s.number ≢ standing.number) × IsInHeap before s)

-- The second has the moments of the first but for the one that is first there.
pub record IsRemoved (before after : Heap) : Type 0 where
  pub kept : (s : NumberedMoment) → standing_at before 0 ≢ Some s → IsInHeap before s → IsInHeap after s
  pub only : (s : NumberedMoment) → IsInHeap after s → (standing_at before 0 ≢ Some s) × IsInHeap before s

-- where the number at a place was before those at two places changed places
abbrev pub swapped : ℕ → ℕ → ℕ → ℕ
swapped i j place = if place == i then j else if place == j then i else place

-- the number at a place
abbrev pub number_at : List NumberedMoment → ℕ → Option ℕ
number_at entries place = option_map (λ (s : NumberedMoment). s.number) (slice_get entries place)

-- each number has one entry, whose place is noted
pub record IsPlaced (entries : List NumberedMoment) (places : List ℕ) (size : ℕ) : Type 0 where
  pub noted : (place n : ℕ) → number_at entries place ≡ Some n → slice_get places n ≡ Some place
  pub there : (place n : ℕ) → slice_get places n ≡ Some place → number_at entries place ≡ Some n
  pub all : length places ≡ length entries
  pub few : size ≤ length entries

-- the second place is one of the two below the first
abbrev pub IsBelow : ℕ → ℕ → Type 0
IsBelow above place = (place ≡ above * 2 + 1) ⊎ (place ≡ above * 2 + 2)

module _ (rank : ℕ → ℕ → Ordering) (heap : Heap) where
  -- the moment at the first place isn't after that at the second
  abbrev pub IsNotAfter : ℕ → ℕ → Type 0
  IsNotAfter above below = is_after rank (standing_at heap above) (standing_at heap below) ≡ false

  -- no moment is after one below it
  abbrev pub IsHeap : Type 0
  IsHeap = (above below : ℕ) → IsBelow above below → IsNotAfter above below

  -- so it is but perhaps for the moment at this place and that above it
  pub record MayRise (place : ℕ) : Type 0 where
    pub others : (above below : ℕ) → IsBelow above below → below ≢ place → IsNotAfter above below
    pub across : (above below : ℕ) → IsBelow above place → IsBelow place below → IsNotAfter above below

  -- so it is but perhaps for the moment at this place and those below it
  pub record MaySink (place : ℕ) : Type 0 where
    pub others : (above below : ℕ) → IsBelow above below → above ≢ place → IsNotAfter above below
    pub across : (above below : ℕ) → IsBelow above place → IsBelow place below → IsNotAfter above below

  -- the moment at the first place is after that at the second, which is below it and isn't after the
  -- other one there
  pub record IsFirstBelow (place next : ℕ) : Type 0 where
    pub below : IsBelow place next
    pub after : is_after rank (standing_at heap place) (standing_at heap next) ≡ true
    pub first : (other : ℕ) → IsBelow place other → IsNotAfter next other
