-- The moves up to a moment are the first of those up to a later one.
use Rattle.std.proofs.Common.{◌≡◌, ℕ, zero, suc, Option, Some, None, ◌≤◌, ◌+◌, ◌-◌, refl, sym, arith, ap, ◌∙◌}
use Rattle.amr_time.specs.Time.{Moment}
use Rattle.amr_engine.specs.State.State.{State}
use Rattle.amr_engine.specs.State.Dues.{Due, next_due}
use Rattle.amr_engine.specs.Moves.{move, advance, counted_run, moves_to, plus_moves}
use Rattle.amr_engine.specs.QuietMoves.{after_first_move, after_first_moves}
use Rattle.amr_engine.specs.Weight.{first_weight}
use Rattle.amr_engine.specs.Calm.{IsPartMade, weight_left}
use Rattle.amr_engine.proofs.Cascade.{advance_over, advance_some, counted_holds, begins, plus_twice}
use Rattle.amr_engine.proofs.Growing.{first_weight-none, first_weight-some}
use Rattle.amr_engine.proofs.MovesNoted.{next_is_first, moved_by}
use Rattle.amr_engine.proofs.TickLaws.{next_due-later}

-- first moves, and then others
pub moved_on : (n k : ℕ) (s : State) → after_first_moves (n + k) s ≡ after_first_moves k (after_first_moves n s)
moved_on zero k s = let none : 0 + k ≡ k = omega arith in ap (λ m. after_first_moves m s) none
moved_on (suc n) k s = let one : suc n + k ≡ suc (n + k) = omega arith in ap (λ m. after_first_moves m s) one ∙ moved_on n k (after_first_move s)

-- nothing is made
pub none_made : (left : ℕ) (at : Moment) (s : State) → IsPartMade left at s s (Some 0)
none_made left at s = (omega arith, refl, begins left at s)

pub none_lighter : (left : ℕ) (at : Moment) (s : State) → first_weight (left - 0) at s ≡ first_weight left at s
none_lighter left at s = grind arith

module _ (until at : Moment) (early : until ≤ at) where
  -- so many moves are made, which are some of those up to the later moment
  record Parted (left : ℕ) (s : State) (run : ℕ × State) : Type 0 where
    made : IsPartMade left at s run.1 (Some run.0)
    weight : first_weight left until s + first_weight (left - run.0) at run.1 ≡ first_weight left at s

  parted_none : (left : ℕ) (s : State) → next_due until s ≡ None → Parted left s (0, s)
  parted_none left s none = record {
    made = none_made left at s;
    weight = omega (arith, first_weight-none left until s none, none_lighter left at s);
  }

  parted_some : (left : ℕ) (s : State) (d : Due) (run : ℕ × State) → next_due until s ≡ Some d → Parted left (move d s) run → Parted (suc left) s (run.0 + 1, run.1)
  parted_some left s d run next parted =
      let later = next_due-later until at early s d next in
      let count : run.0 + 1 ≡ suc run.0 = omega arith in
      let moved = moved_by s d (next_is_first at s d (sym later)) in
      let twice = plus_twice (counted_run (advance (left - run.0) at run.1)) run.0 1 in
      grind (arith, moved, twice, advance_some left at s d later, first_weight-some left until s d next, first_weight-some left at s d later)

  -- so they are made, or more are due up to the later moment too; and fewer moves weigh no more
  abbrev Goes : ℕ → State → Option (ℕ × State) → Type 0
  Goes left s None = (counted_run (advance left at s) ≡ None) × (first_weight left until s ≤ first_weight left at s)
  Goes left s (Some run) = Parted left s run

  goes : (left : ℕ) (s : State) → Goes left s (counted_run (advance left until s))
  goes = counted_holds until Goes parted_none (λ s d next. (advance_over at s d (next_due-later until at early s d next), omega arith)) more
    where
      more : (left : ℕ) (s : State) (d : Due) (r : Option (ℕ × State)) → next_due until s ≡ Some d → Goes left (move d s) r → Goes (suc left) s (plus_moves r 1)
      more left s d None next over =
          let later = next_due-later until at early s d next in
          grind (arith, advance_some left at s d later, first_weight-some left until s d next, first_weight-some left at s d later)
      more left s d (Some run) next rest = parted_some left s d run next rest

  -- the moves up to the first moment are made, or are too many
  pub part_made : (left : ℕ) (s t : State) (made : Option ℕ) → counted_run (advance left until s) ≡ moves_to t made → IsPartMade left at s t made
  part_made left s t made is = grind (arith, goes left s)

  pub part_weighs : (left : ℕ) (s t : State) (made : Option ℕ) → counted_run (advance left until s) ≡ moves_to t made → first_weight left until s + weight_left left at t made ≤ first_weight left at s
  part_weighs left s t made is = grind (arith, goes left s)
