-- The moves of an event, counted one after another.
use Rattle.std.proofs.Common.{[], ◌≡◌, false, ℕ, suc, ◌+◌, ◌-◌, ◌<◌, ◌≤◌, List, Option, None, Some, refl, sym, ap, subst, ◌∙◌, arith}
use Rattle.std.specs.Option.{option_map, option_map_or, is_some}
use Rattle.amr_time.specs.Time.{Moment}
use Rattle.amr_engine.specs.State.State.{State}
use Rattle.amr_engine.specs.Runs.{after_step}
use Rattle.amr_engine.specs.Events.{move_limit}
use Rattle.amr_engine.specs.State.Dues.{Due, next_due}
use Rattle.amr_engine.specs.Moves.{move, advance, counted_run, plus_moves}
use Rattle.amr_engine.proofs.RunsLaws.{run_holds, run_within-complete}

pub advance_none : (n : ℕ) (at : Moment) (s : State) → next_due at s ≡ None → counted_run (advance n at s) ≡ Some (0, s)
advance_none n at s e = ap counted_run (run_within-complete (next_due at) move n s [] s (e, refl) (omega arith))

pub advance_over : (at : Moment) (s : State) (d : Due) → next_due at s ≡ Some d → counted_run (advance 0 at s) ≡ None
advance_over at s d e = ap (λ (o : Option Due). counted_run (option_map_or (λ d. None) o (Some ([], s)))) e

one_longer : (d : Due) (r : Option (List Due × State)) (at : Moment) → counted_run (option_map (after_step (next_due at) move d) r) ≡ plus_moves (counted_run r) 1
one_longer d r at = grind arith

pub advance_some : (n : ℕ) (at : Moment) (s : State) (d : Due) → next_due at s ≡ Some d → counted_run (advance (suc n) at s) ≡ plus_moves (counted_run (advance n at (move d s))) 1
advance_some n at s d e =
    ap (λ (o : Option Due). counted_run (option_map_or (λ d. option_map (after_step (next_due at) move d) (advance n at (move d s))) o (Some ([], s)))) e
    ∙ one_longer d (advance n at (move d s)) at

-- what holds where nothing more is due, where the limit is reached and after one more move holds of
-- the moves up to the moment
pub counted_holds : (at : Moment) (P : ℕ → State → Option (ℕ × State) → Type 0) → ((l : ℕ) (s : State) → next_due at s ≡ None → P l s (Some (0, s)))
    → ((s : State) (d : Due) → next_due at s ≡ Some d → P 0 s None) → ((l : ℕ) (s : State) (d : Due) (r : Option (ℕ × State)) → next_due at s ≡ Some d → P l (move d s) r → P (suc l) s (plus_moves r 1))
    → (l : ℕ) (s : State) → P l s (counted_run (advance l at s))
counted_holds at P none over more =
    run_holds (next_due at) move (λ l s o. P l s (counted_run o)) none over (λ l s d o e rest. subst (P (suc l) s) (sym (one_longer d o at)) (more l s d (counted_run o) e rest))

pub plus_twice : (r : Option (ℕ × State)) (m n : ℕ) → plus_moves (plus_moves r m) n ≡ plus_moves r (n + m)
plus_twice r m n = grind arith

pub plus_none : (r : Option (ℕ × State)) → plus_moves r 0 ≡ r
plus_none r = grind arith

-- one more move keeps the count
pub goes_on : (limit made : ℕ) (at : Moment) (s before : State) (d : Due) → counted_run (advance limit at before) ≡ plus_moves (counted_run (advance (limit - made) at s)) made
    → made < limit → Some d ≡ next_due at s → counted_run (advance limit at before) ≡ plus_moves (counted_run (advance (limit - (made + 1)) at (move d s))) (made + 1)
goes_on limit made at s before d so_far less some =
    let one : limit - made ≡ suc (limit - (made + 1)) = omega arith in
    grind (arith, one, advance_some (limit - (made + 1)) at s d (sym some), plus_twice (counted_run (advance (limit - (made + 1)) at (move d s))) 1 made)

-- nothing more is due after this many moves
pub stops : (limit made : ℕ) (at : Moment) (s before : State) → counted_run (advance limit at before) ≡ plus_moves (counted_run (advance (limit - made) at s)) made
    → None ≡ next_due at s → Some (made, s) ≡ counted_run (advance limit at before)
stops limit made at s before so_far none = grind (arith, advance_none (limit - made) at s (sym none))

-- the limit is reached, and something is still due
pub is_over : (limit made : ℕ) (at : Moment) (s before : State) (d : Due) → counted_run (advance limit at before) ≡ plus_moves (counted_run (advance (limit - made) at s)) made
    → limit ≤ made → Some d ≡ next_due at s → None ≡ counted_run (advance limit at before)
is_over limit made at s before d so_far all some = grind (arith, advance_over at s d (sym some))

pub no_value : {A : Type 0} (o r : Option A) → o ≡ r → false ≡ is_some o → None ≡ r
no_value o r e h = grind arith

pub limit_is : move_limit ≡ 1_000_000
unfolding move_limit
limit_is = refl

-- before the first move
pub begins : (limit : ℕ) (at : Moment) (s : State) → counted_run (advance limit at s) ≡ plus_moves (counted_run (advance (limit - 0) at s)) 0
begins limit at s = grind (arith, plus_none (counted_run (advance limit at s)))
