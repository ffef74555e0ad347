-- A queue of moments with their numbers: what it loses and gains at its ends.
use Rattle.std.proofs.Common.{◌≡◌, ◌≢◌, ℕ, ◌-◌, nat_lt, false, inr, List, [], ◌∷◌, ◌++◌, length, Option, Some, None, is_some, refl, subst, arith}
use Rattle.std.specs.Prelude.{◌⊎◌, slice_get, slice_index_or, unwrap_or}
use Rattle.std.specs.List.{last_or}
use Rattle.std.specs.Option.{option_to_list}
use Rattle.std.proofs.Math.Logic.{⊎_map}
use Rattle.std.proofs.lemmas.Bool.Decides.{nat_tests}
use Rattle.std.specs.declared.cmp.Ordering.{Ordering}
use Rattle.amr_tables.specs.declared.schedule.NumberedMoment.{NumberedMoment}
use Rattle.amr_tables.specs.Moments.{is_after}
use Rattle.amr_tables.specs.Heap.{IsInserted, IsHeap}
use Rattle.amr_tables.specs.Earliest.{Earliest, changed_back, StandsIn, Stands, IsHeld, IsCurrent, IsOutdated, AreAmong, IsQueue, AreKept}

-- ---- what stands in a queue

pub stands_more : (queue : List NumberedMoment) (s x : NumberedMoment) → (s ≡ x) ⊎ StandsIn queue x → StandsIn (queue ++ s ∷ []) x
stands_more [] s x h = h
stands_more (y ∷ queue) s x h = let rest = stands_more queue s x in grind (arith, rest, h)

stands_before : (queue : List NumberedMoment) (r : Option NumberedMoment) (x : NumberedMoment) → StandsIn (queue ++ option_to_list r) x → (r ≡ Some x) ⊎ StandsIn queue x
stands_before [] r x h = grind (arith, h)
stands_before (y ∷ queue) r x h = let rest = stands_before queue r x in grind (arith, rest, h)

last_is : (o : Option NumberedMoment) (queue : List NumberedMoment) (s : NumberedMoment) → last_or o (queue ++ s ∷ []) ≡ Some s
last_is o [] s = refl
last_is o (x ∷ queue) s = last_is (Some x) queue s

last_item : (x d : NumberedMoment) (queue : List NumberedMoment) → Some (slice_index_or (x ∷ queue) (length queue) d) ≡ last_or (Some x) queue
last_item x d [] = refl
last_item x d (y ∷ queue) = last_item y d queue

-- what a queue gives at its last index is the last item
pub copied_last : (queue : List NumberedMoment) (len : ℕ) (r : Option NumberedMoment) → len ≡ length queue → is_some r ≡ nat_lt 0 (length queue) → ((d : NumberedMoment) → unwrap_or r d ≡ slice_index_or queue (len - 1) d) → r ≡ last_or None queue
copied_last [] len r e some item = grind (arith, nat_tests, some)
copied_last (x ∷ queue) len r e some item = grind (arith, nat_tests, some, item x, last_item x x queue, e)

-- ---- the order of a queue

module _ (rank : ℕ → ℕ → Ordering) where
  queue_init : (queue more : List NumberedMoment) → IsQueue rank (queue ++ more) → IsQueue rank queue
  queue_init [] more h = tt
  queue_init (x ∷ []) more h = tt
  queue_init (x ∷ y ∷ queue) more h = (h.0, queue_init (y ∷ queue) more h.1)

  queue_tail : (r : Option NumberedMoment) (queue : List NumberedMoment) → IsQueue rank (option_to_list r ++ queue) → IsQueue rank queue
  queue_tail None queue h = h
  queue_tail (Some s) [] h = tt
  queue_tail (Some s) (x ∷ queue) h = h.1

  queue_longer : (queue : List NumberedMoment) (s : NumberedMoment) → is_after rank (last_or None queue) (Some s) ≡ false → IsQueue rank queue → IsQueue rank (queue ++ s ∷ [])
  queue_longer [] s h is = tt
  queue_longer (x ∷ []) s h is = (h, tt)
  queue_longer (x ∷ y ∷ queue) s h is = (is.0, queue_longer (y ∷ queue) s h is.1)

  queue_earlier : (s : NumberedMoment) (queue : List NumberedMoment) → is_after rank (Some s) (slice_get queue 0) ≡ false → IsQueue rank queue → IsQueue rank (s ∷ queue)
  queue_earlier s [] h is = tt
  queue_earlier s (x ∷ queue) h is = (h, is)

-- ---- an end that isn't current leaves

module _ (moments : ℕ → Option ℕ) (rank : ℕ → ℕ → Ordering) {e u : Earliest} (rest : u.rest ≡ e.rest) (r : Option NumberedMoment) where
  pub last_leaves : (fewer : ℕ → Option ℕ) → AreAmong fewer moments → e.queue ≡ u.queue ++ option_to_list r → IsOutdated moments (last_or None e.queue) → AreKept rank fewer e → AreKept rank fewer u
  last_leaves fewer among is out kept = record {
    queue = queue_init rank u.queue (option_to_list r) (subst (IsQueue rank) is kept.queue);
    rest = rw rest kept.rest;
    stands = λ x at. grind (arith, among x at, stands_before u.queue r x, last_is None u.queue x, kept.stands x at, is, out, rest);
  }

  pub front_leaves : e.queue ≡ option_to_list r ++ u.queue → IsOutdated moments (slice_get e.queue 0) → AreKept rank moments e → AreKept rank moments u
  front_leaves is out kept = record {
    queue = queue_tail rank r u.queue (subst (IsQueue rank) is kept.queue);
    rest = rw rest kept.rest;
    stands = λ x at. grind (arith, kept.stands x at, is, out, rest, at);
  }

-- ---- a moment joins

module _ (moments : ℕ → Option ℕ) (s : NumberedMoment) (now : IsCurrent moments s) (e u : Earliest) where
  -- it stands now, and so do those of other numbers
  joins : (rank : ℕ → ℕ → Ordering) → IsQueue rank u.queue → IsHeap rank u.rest → Stands u s → ((x : NumberedMoment) → x.number ≢ s.number → Stands e x → Stands u x) → AreKept rank (changed_back moments s.number None) e → AreKept rank moments u
  joins rank sorted played here stood kept = record { queue = sorted; rest = played; stands = λ x at. grind (arith, nat_tests, here, stood x, kept.stands x, at, now) }

  -- what stands is the moment, or stood before
  held_more : ((x : NumberedMoment) → Stands u x → Stands e x ⊎ (x.number ≡ s.number)) → (n : ℕ) → IsHeld u n → IsHeld e n ⊎ (n ≡ s.number)
  held_more stood n (m, stands) = ⊎_map (λ h. (m, h)) (λ same. same) (stood (record { moment = m; number = n }) stands)

  -- ---- at an end of the queue

  module _ (rest : u.rest ≡ e.rest) where
    pub held_last : u.queue ≡ e.queue ++ s ∷ [] → (n : ℕ) → IsHeld u n → IsHeld e n ⊎ (n ≡ s.number)
    held_last queue = held_more (λ x h. grind (arith, stands_before e.queue (Some s) x, queue, rest, h))

    pub kept_last : (rank : ℕ → ℕ → Ordering) → u.queue ≡ e.queue ++ s ∷ [] → is_after rank (last_or None e.queue) (Some s) ≡ false → AreKept rank (changed_back moments s.number None) e → AreKept rank moments u
    kept_last rank queue order kept = joins rank (rw queue (queue_longer rank e.queue s order kept.queue)) (rw rest kept.rest) (grind (arith, stands_more e.queue s s, queue)) (λ x apart h. grind (arith, stands_more e.queue s x, queue, rest, h)) kept

    pub kept_first : (rank : ℕ → ℕ → Ordering) → u.queue ≡ s ∷ e.queue → is_after rank (Some s) (slice_get e.queue 0) ≡ false → AreKept rank (changed_back moments s.number None) e → AreKept rank moments u
    kept_first rank queue order kept = joins rank (rw queue (queue_earlier rank s e.queue order kept.queue)) (rw rest kept.rest) (grind (arith, queue)) (λ x apart h. grind (arith, queue, rest, h)) kept

  -- ---- among the rest

  module _ (queue : u.queue ≡ e.queue) (inserted : IsInserted s e.rest u.rest) where
    pub held_rest : (n : ℕ) → IsHeld u n → IsHeld e n ⊎ (n ≡ s.number)
    held_rest = held_more (λ x h. grind (arith, inserted.only x, queue, h))

    pub kept_rest : (rank : ℕ → ℕ → Ordering) → IsHeap rank u.rest → AreKept rank (changed_back moments s.number None) e → AreKept rank moments u
    kept_rest rank heap kept = joins rank (rw queue kept.queue) heap (inr inserted.stands) (λ x apart h. ⊎_map (λ h. rw queue h) (inserted.kept x apart) h) kept
