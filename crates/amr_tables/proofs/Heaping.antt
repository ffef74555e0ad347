-- A heap of moments with their numbers: who is first, and what a step up or down changes.
use Rattle.std.proofs.Common.{◌≡◌, ◌≢◌, ℕ, suc, ◌+◌, ◌-◌, ◌/◌, ◌<◌, ◌≤◌, Bool, true, false, List, [], ◌∷◌, ◌++◌, Option, Some, None, length, length-set, slice_set, is_some, refl, sym, ◌∙◌, arith}
use Rattle.std.specs.Prelude.{◌==◌, ◌↔◌, if◌then◌else◌, slice_get}
use Rattle.std.specs.List.{SwappedAt}
use Rattle.std.proofs.lemmas.Bool.Decides.{nat_tests}
use Rattle.std.proofs.lemmas.Option.{gets, slice_get-get_or, slice_get_past}
use Rattle.std.proofs.lemmas.List.{length_push}
use Rattle.std.proofs.Math.Arith.{bin_ind}
use Rattle.std.specs.declared.cmp.Ordering.{Ordering}
use Rattle.std.specs.Ordering.{nat_cmp, ordering_then}
use Rattle.std.specs.Cmp.{IsTotalOrder, IsStrictWeakOrder, nat_cmp_total}
use Rattle.std.proofs.lemmas.Cmp.{on_total, then_total, upto}
use Rattle.amr_tables.specs.declared.schedule.NumberedMoment.{NumberedMoment}
use Rattle.amr_tables.specs.Moments.{is_after}
use Rattle.amr_tables.proofs.Present.{get_push, get_set}
use Rattle.amr_tables.specs.Heap.{Heap, standing_at, IsInHeap, HoldSame, IsInserted, IsRemoved, number_at, swapped, IsPlaced, IsBelow, IsNotAfter, IsHeap, MayRise, MaySink}

-- ---- the order of moments

moment_cmp : (ℕ → ℕ → Ordering) → NumberedMoment → NumberedMoment → Ordering
moment_cmp rank a b = ordering_then (nat_cmp a.moment b.moment) (rank a.number b.number)

pub after_order : {rank : ℕ → ℕ → Ordering} → IsTotalOrder rank → IsStrictWeakOrder (is_after rank)
after_order {rank} order = record { one_way = one_way; chain = chain }
  where
    total : IsTotalOrder (λ (a b : NumberedMoment). ordering_then (nat_cmp a.moment b.moment) (rank a.number b.number))
    total = then_total (on_total (λ (s : NumberedMoment). s.moment) nat_cmp_total) (on_total (λ (s : NumberedMoment). s.number) order)

    one_way : (a b : Option NumberedMoment) → is_after rank a b ≡ true → is_after rank b a ≡ false
    one_way (Some a) (Some b) after = grind (arith, total.antisymm a b, after)
    one_way (Some a) None after = grind (arith, after)
    one_way None b after = grind (arith, after)

    chain : (a b c : Option NumberedMoment) → is_after rank a b ≡ false → is_after rank b c ≡ false → is_after rank a c ≡ false
    chain (Some a) (Some b) (Some c) first then_ = upto total a b c first then_
    chain (Some a) (Some b) None first then_ = refl
    chain (Some a) None c first then_ = grind (arith, first, then_)
    chain None (Some b) c first then_ = grind (arith, first)
    chain None None c first then_ = then_

-- ---- the order of a heap

module _ {X : Type 0} {after : X → X → Bool} (order : IsStrictWeakOrder after) (at next : ℕ → X) where
  abbrev NotAfter : ℕ → ℕ → Type 0
  NotAfter a b = after (at a) (at b) ≡ false

  itself : (x : X) → after x x ≡ false
  itself x = grind (arith, order.one_way x x)

  -- the first is not after any other
  pub first_of : ((above below : ℕ) → IsBelow above below → NotAfter above below) → (place : ℕ) → NotAfter 0 place
  first_of heap place = by (suc place) (omega arith) place refl
    where
      by : (node : ℕ) → 1 ≤ node → (place : ℕ) → suc place ≡ node → NotAfter 0 place
      by = bin_ind (λ node. 1 ≤ node → (place : ℕ) → suc place ≡ node → NotAfter 0 place) (λ one. absurd (omega arith)) (λ node half one place is.
          grind (arith, itself (at 0), half, heap (node / 2 - 1) place, order.chain (at 0) (at (node / 2 - 1)) (at place), one, is))

  -- Two changed places: the one above was after the one below.
  module _ (above below : ℕ) (edge : IsBelow above below) (changed : (place : ℕ) → next place ≡ at (swapped above below place)) where
    -- one that rises changes places with the one above it
    pub rises : after (at above) (at below) ≡ true
        → ((a b : ℕ) → IsBelow a b → b ≢ below → NotAfter a b) → ((a b : ℕ) → IsBelow a below → IsBelow below b → NotAfter a b)
        → ((a b : ℕ) → IsBelow a b → b ≢ above → after (next a) (next b) ≡ false) × ((a b : ℕ) → IsBelow a above → IsBelow above b → after (next a) (next b) ≡ false)
    rises is_after others across = (
      λ a b e apart. grind (arith, nat_tests, changed a, changed b, others a b e, across above b edge, order.chain (at below) (at above) (at b), order.one_way (at above) (at below) is_after, edge, e, apart),
      λ a b over under. grind (arith, nat_tests, changed a, changed b, others a above over, others above b under, order.chain (at a) (at above) (at b), edge, over, under),
    )

    -- one that sinks changes places with the first of those below it
    pub sinks : after (at above) (at below) ≡ true → ((b : ℕ) → IsBelow above b → NotAfter below b)
        → ((a b : ℕ) → IsBelow a b → a ≢ above → NotAfter a b) → ((a b : ℕ) → IsBelow a above → IsBelow above b → NotAfter a b)
        → ((a b : ℕ) → IsBelow a b → a ≢ below → after (next a) (next b) ≡ false) × ((a b : ℕ) → IsBelow a below → IsBelow below b → after (next a) (next b) ≡ false)
    sinks is_after first others across = (
      λ a b e apart. grind (arith, nat_tests, changed a, changed b, others a b e, across a below, first b, order.one_way (at above) (at below) is_after, edge, e, apart),
      λ a b over under. grind (arith, nat_tests, changed a, changed b, others below b under, edge, over, under),
    )

  -- ---- another moment at a place

  module _ (heap : (above below : ℕ) → IsBelow above below → NotAfter above below) (place : ℕ) (same : (k : ℕ) → k ≢ place → next k ≡ at k) where
    -- one that isn't after the former may rise
    pub may_rise : after (next place) (at place) ≡ false → ((a b : ℕ) → IsBelow a b → b ≢ place → after (next a) (next b) ≡ false) × ((a b : ℕ) → IsBelow a place → IsBelow place b → after (next a) (next b) ≡ false)
    may_rise less = (
      λ a b e apart. grind (arith, nat_tests, same a, same b, heap a b e, order.chain (next place) (at place) (at b), less, e, apart),
      λ a b over under. grind (arith, nat_tests, same a, same b, heap a place over, heap place b under, order.chain (at a) (at place) (at b), over, under),
    )

    -- one that the former isn't after may sink
    pub may_sink : after (at place) (next place) ≡ false → ((a b : ℕ) → IsBelow a b → a ≢ place → after (next a) (next b) ≡ false) × ((a b : ℕ) → IsBelow a place → IsBelow place b → after (next a) (next b) ≡ false)
    may_sink more = (
      λ a b e apart. grind (arith, nat_tests, same a, same b, heap a b e, order.chain (at a) (at place) (next place), more, e, apart),
      λ a b over under. grind (arith, nat_tests, same a, same b, heap a place over, heap place b under, order.chain (at a) (at place) (at b), over, under),
    )

-- ---- numbers and places that change places

pub swapped_get : {X : Type 0} (xs ys : List X) (i j : ℕ) (d : X) → i < length xs → j < length xs → length ys ≡ length xs → SwappedAt xs ys i j → (place : ℕ) → slice_get ys place ≡ slice_get xs (swapped i j place)
swapped_get xs ys i j d within there len is place = grind (arith, nat_tests, slice_get-get_or ys place d, slice_get-get_or xs place d, slice_get-get_or xs i d, slice_get-get_or xs j d, slice_get_past xs place, slice_get_past ys place, is.0 d, is.1 d, is.2 place d, within, there, len)

pub placed_swapped : {entries after : List NumberedMoment} {places noted : List ℕ} {size : ℕ} (i j n m : ℕ) → IsPlaced entries places size → number_at entries i ≡ Some n → number_at entries j ≡ Some m → length after ≡ length entries → length noted ≡ length places
    → ((place : ℕ) → slice_get after place ≡ slice_get entries (swapped i j place)) → ((number : ℕ) → slice_get noted number ≡ slice_get places (swapped n m number)) → IsPlaced after noted size
placed_swapped {entries} {after} {places} {noted} {size} i j n m is first second len long entry note = record {
  noted = λ place number at. grind (arith, nat_tests, entry place, note number, is.noted i n first, is.noted j m second, is.noted place number, is.there place number, first, second, at);
  there = λ place number at. grind (arith, nat_tests, entry place, note number, is.noted i n first, is.noted j m second, is.there place number, is.noted place number, first, second, at);
  all = long ∙ is.all ∙ sym len;
  few = omega (arith, is.few, len);
}

module _ (h u : Heap) (i j : ℕ) (within : i < h.size) (there : j < h.size) (size : u.size ≡ h.size) (entries : (place : ℕ) → slice_get u.entries place ≡ slice_get h.entries (swapped i j place)) where
  pub standing_swapped : (place : ℕ) → standing_at u place ≡ standing_at h (swapped i j place)
  standing_swapped place = grind (arith, nat_tests, entries place, size, within, there)

  -- the same moments stand there
  pub hold_swapped : HoldSame h u
  hold_swapped s = (
    λ is. (swapped i j is.0, grind (arith, nat_tests, standing_swapped (swapped i j is.0), is.1)),
    λ is. (swapped i j is.0, sym (standing_swapped is.0) ∙ is.1),
  )

  -- the moment that was after the one below it is there now, and that one above it
  module _ {rank : ℕ → ℕ → Ordering} (total : IsTotalOrder rank) (edge : IsBelow i j) (after : is_after rank (standing_at h i) (standing_at h j) ≡ true) where
    pub risen : MayRise rank h j → MayRise rank u i
    risen may =
        let now = rises (after_order total) (standing_at h) (standing_at u) i j edge standing_swapped after may.others may.across in
        record { others = now.0; across = now.1 }

    pub sunk : ((b : ℕ) → IsBelow i b → IsNotAfter rank h j b) → MaySink rank h i → MaySink rank u j
    sunk first may =
        let now = sinks (after_order total) (standing_at h) (standing_at u) i j edge standing_swapped after first may.others may.across in
        record { others = now.0; across = now.1 }

-- a place at which none stands is past the others
pub past_place : (h : Heap) (place : ℕ) {o : Option NumberedMoment} {b : Bool} → place < length h.entries → o ≡ standing_at h place → b ≡ is_some o → b ≡ false → h.size ≤ place
past_place h place within at is none = grind (arith, nat_tests, gets, within, at, is, none)

-- the next place, after a number without one changed places with the entry there
module _ {entries : List NumberedMoment} {places : List ℕ} {size : ℕ} (is : IsPlaced entries places size) (n place : ℕ) (noted : slice_get places n ≡ Some place) where
  -- the number stands at its place alone
  pub one_place : (k : ℕ) (s : NumberedMoment) → standing_at (record { entries = entries; size = size }) k ≡ Some s → (s.number ≡ n) ↔ (k ≡ place)
  one_place k s at = (λ same. grind (arith, is.noted k s.number, noted, at, same), λ same. grind (arith, is.there place n noted, at, same))

  module _ (after : List NumberedMoment) (past : size ≤ place) (entry : (k : ℕ) → slice_get after k ≡ slice_get entries (swapped place size k)) where
    pub entered_others : (k : ℕ) → k ≢ size → standing_at (record { entries = after; size = size + 1 }) k ≡ standing_at (record { entries = entries; size = size }) k
    entered_others k apart = grind (arith, nat_tests, entry k, past, apart)

    pub entered_own : number_at after size ≡ Some n
    entered_own = grind (arith, nat_tests, entry size, is.there place n noted)

-- one more number, which doesn't stand in the heap
module _ {entries : List NumberedMoment} {places : List ℕ} {size : ℕ} (is : IsPlaced entries places size) (s : NumberedMoment) where
  pub placed_more : s.number ≡ length entries → IsPlaced (entries ++ s ∷ []) (places ++ s.number ∷ []) size
  placed_more next = record {
    noted = λ place n at. grind (arith, nat_tests, is.noted place n, is.all, get_push entries s place, get_push places s.number n, slice_get_past entries place, slice_get_past places n, next, at);
    there = λ place n at. grind (arith, nat_tests, is.there place n, is.all, get_push entries s place, get_push places s.number n, slice_get_past entries place, slice_get_past places n, next, at);
    all = grind (arith, is.all, length_push entries s, length_push places s.number);
    few = grind (arith, is.few, length_push entries s);
  }

  pub standing_more : (place : ℕ) → standing_at (record { entries = entries ++ s ∷ []; size = size }) place ≡ standing_at (record { entries = entries; size = size }) place
  standing_more place = grind (arith, nat_tests, is.few, get_push entries s place)

pub hold_same : (a b c : Heap) → HoldSame a b → HoldSame b c → HoldSame a c
hold_same a b c first then_ s = (λ is. (then_ s).0 ((first s).0 is), λ is. (first s).1 ((then_ s).1 is))

-- ---- a moment is inserted, before the heap is in order again

-- the number at a place has another moment
pub placed_again : {entries : List NumberedMoment} {places : List ℕ} {size : ℕ} (place : ℕ) (s : NumberedMoment) → IsPlaced entries places size → number_at entries place ≡ Some s.number → IsPlaced (slice_set entries place s) places size
placed_again {entries} place s is own =
    let entry = λ (k : ℕ). get_set entries place s (grind (arith, slice_get_past entries place, own)) k in
    record {
      noted = λ k n at. grind (arith, nat_tests, entry k, is.noted k n, own, at);
      there = λ k n at. grind (arith, nat_tests, entry k, is.there k n, own, at);
      all = is.all ∙ sym (length-set entries place s);
      few = omega (arith, is.few, length-set entries place s);
    }

module _ (h m : Heap) (place : ℕ) (s : NumberedMoment) (here : standing_at m place ≡ Some s) (others : (k : ℕ) → k ≢ place → standing_at m k ≡ standing_at h k) where
  pub inserted : (u : Heap) → ((k : ℕ) (x : NumberedMoment) → standing_at h k ≡ Some x → (x.number ≡ s.number) ↔ (k ≡ place)) → HoldSame m u → IsInserted s h u
  inserted u one same = record {
    stands = (same s).0 (place, here);
    kept = λ x apart is. (same x).0 (is.0, others is.0 (λ e. apart ((one is.0 x is.1).1 e)) ∙ is.1);
    only = λ x is. let in_m = (same x).1 is in grind (arith, nat_tests, here, others in_m.0, one in_m.0 x, in_m.1);
  }

  module _ {rank : ℕ → ℕ → Ordering} (total : IsTotalOrder rank) (heap : IsHeap rank h) where
    pub rising : is_after rank (standing_at h place) (Some s) ≡ true → MayRise rank m place
    rising after =
        let now = may_rise (after_order total) (standing_at h) (standing_at m) heap place others (rw here ((after_order total).one_way (standing_at h place) (Some s) after)) in
        record { others = now.0; across = now.1 }

    pub sinking : is_after rank (standing_at h place) (Some s) ≡ false → MaySink rank m place
    sinking before =
        let now = may_sink (after_order total) (standing_at h) (standing_at m) heap place others (rw here before) in
        record { others = now.0; across = now.1 }

-- ---- the last takes the place of the first

module _ (h m : Heap) {places : List ℕ} (is : IsPlaced h.entries places h.size) (some : 0 < h.size) (size : m.size ≡ h.size - 1) (entry : (k : ℕ) → slice_get m.entries k ≡ slice_get h.entries (swapped 0 (h.size - 1) k)) where
  pub removed : (u : Heap) → HoldSame m u → IsRemoved h u
  removed u same = record {
    kept = λ x apart is. (same x).0 (if is.0 == h.size - 1 then 0 else is.0, grind (arith, nat_tests, entry 0, entry is.0, is.1, apart, some, size));
    only = λ x there. let in_m = (same x).1 there in (
      grind (arith, nat_tests, entry in_m.0, is.noted 0 x.number, is.noted (swapped 0 (h.size - 1) in_m.0) x.number, in_m.1, size),
      (swapped 0 (h.size - 1) in_m.0, grind (arith, nat_tests, entry in_m.0, in_m.1, size)),
    );
  }

  pub sinking_last : {rank : ℕ → ℕ → Ordering} → IsHeap rank h → MaySink rank m 0
  sinking_last heap = record {
    others = λ a b edge apart. grind (arith, nat_tests, entry a, entry b, heap a b edge, edge, apart, size);
    across = λ a b over under. absurd (omega (arith, over));
  }

-- ---- another order of the same numbers

-- a heap stands under another order that agrees on all moments in it
pub heap_agrees : (rank other : ℕ → ℕ → Ordering) (h : Heap) → ((a b : NumberedMoment) → IsInHeap h a → IsInHeap h b → is_after other (Some a) (Some b) ≡ is_after rank (Some a) (Some b)) → IsHeap rank h → IsHeap other h
heap_agrees rank other h agree heap above below edge = by (standing_at h above) (standing_at h below) refl refl
  where
    by : (a b : Option NumberedMoment) → standing_at h above ≡ a → standing_at h below ≡ b → is_after other (standing_at h above) (standing_at h below) ≡ false
    by (Some a) (Some b) p q = grind (arith, agree a b (above, p) (below, q), heap above below edge, p, q)
    by (Some a) None p q = grind (arith, p, q)
    by None None p q = grind (arith, p, q)
    by None (Some b) p q = grind (arith, heap above below edge, p, q)
