-- What is noted of the moves from a state holds of them.
use Rattle.std.proofs.Common.{[], ◌≡◌, ◌⊎◌, ℕ, zero, suc, Bool, true, false, ◌+◌, List, ◌∷◌, ◌++◌, Option, Some, length, get_or, Result, OnOk, OnErr, refl, sym, ap, ◌∙◌, subst, arith}
use Rattle.std.specs.Option.{option_map_or}
use Rattle.std.proofs.lemmas.Bool.Decides.{nat_tests}
use Rattle.amr_time.specs.Time.{Moment}
use Rattle.amr_engine.specs.State.State.{State}
use Rattle.amr_engine.specs.State.Dues.{Due, dues, least_due, due_by, next_due}
use Rattle.amr_engine.specs.Moves.{move}
use Rattle.amr_engine.specs.QuietMoves.{first_due, after_first_move, after_first_moves, OnlySets, IsQuietMove, AreQuietMoves, with_move_noted}

-- a timer that is due by a moment is the first of all
first_by : (at : Moment) (first : Option Due) (due : Due) → due_by at first ≡ Some due → first ≡ Some due
first_by at first due is = grind arith

pub next_is_first : (at : Moment) (s : State) (due : Due) → Some due ≡ next_due at s → first_due s ≡ Some due
unfolding next_due
next_is_first at s due is = first_by at (least_due (dues s)) due (sym is)

pub moved_by : (s : State) (due : Due) → first_due s ≡ Some due → after_first_move s ≡ move due s
moved_by s due is = ap (λ o. option_map_or (λ d. move d s) o s) is

-- one more move
pub moved_more : (n : ℕ) (s : State) → after_first_moves (suc n) s ≡ after_first_move (after_first_moves n s)
moved_more zero s = refl
moved_more (suc n) s = moved_more n (after_first_move s)

pub quiet_move : (moves : List Bool) (n : ℕ) (s : State) → AreQuietMoves moves s → get_or moves n false ≡ true → IsQuietMove (after_first_moves n s)
quiet_move [] n s known is = absurd (cc)
quiet_move (quiet ∷ moves) zero s known is = known.0 is
quiet_move (quiet ∷ moves) (suc n) s known is = quiet_move moves n (after_first_move s) known.1 is

pub one_noted : (moves : List Bool) (quiet : Bool) (s : State) → AreQuietMoves moves s → (quiet ≡ true → IsQuietMove (after_first_moves (length moves) s)) → AreQuietMoves (moves ++ quiet ∷ []) s
one_noted [] quiet s known one = (one, tt)
one_noted (first ∷ moves) quiet s known one = (known.0, one_noted moves quiet (after_first_move s) known.1 one)

-- one more move is noted
pub still_noted : (moves : List Bool) (made : ℕ) (quiet : Bool) (s : State) → AreQuietMoves moves s → (quiet ≡ true → IsQuietMove (after_first_moves made s)) → AreQuietMoves (with_move_noted made quiet moves) s
still_noted moves made quiet s known one =
    let noted : made ≡ length moves → AreQuietMoves (moves ++ quiet ∷ []) s = λ all. one_noted moves quiet s known (subst (λ n. quiet ≡ true → IsQuietMove (after_first_moves n s)) all one) in
    grind (arith, nat_tests, noted)

same_due : (first : Option Due) (a b : Due) → first ≡ Some a → first ≡ Some b → a ≡ b
same_due first a b is is' = cc

-- a move of which it is known is the first one
pub is_quiet_move : (s : State) (due : Due) → first_due s ≡ Some due → OnlySets s due → IsQuietMove s
is_quiet_move s due is only other is' = subst (OnlySets s) (same_due (first_due s) due other is is') only

-- what is known of a move that comes next
pub known_move : (moves : List Bool) (made : ℕ) (start s : State) (at : Moment) (due : Due) → s ≡ after_first_moves made start → AreQuietMoves moves start → Some due ≡ next_due at s
    → get_or moves made false ≡ true → OnlySets s due
known_move moves made start s at due here known next quiet =
    subst (λ (x : State). IsQuietMove x) (sym here) (quiet_move moves made start known quiet) due (next_is_first at s due next)

-- a change that may lack the memory was made, or nothing was changed
pub noted_or_not : {E : Type 0} (r : Result (Unit {0}) E) (A B : Type 0) → OnOk r A → OnErr r B → A ⊎ B
noted_or_not r A B made same = grind arith

-- one more move is noted after it was made, or forgotten
pub note_move : (moves after : List Bool) (made : ℕ) (quiet : Bool) (start s : State) (at : Moment) (due : Due) → s ≡ after_first_moves made start → AreQuietMoves moves start → Some due ≡ next_due at s
    → (quiet ≡ true → OnlySets s due) → (after ≡ with_move_noted made quiet moves) ⊎ (after ≡ moves) → AreQuietMoves after start
note_move moves after made quiet start s at due here known next only noted =
    let more = still_noted moves made quiet start known (λ is. subst (λ (x : State). IsQuietMove x) here (is_quiet_move s due (next_is_first at s due next) (only is))) in
    grind (arith, more)

-- the state after one more move
pub one_more : (made : ℕ) (start s after : State) (at : Moment) (due : Due) → s ≡ after_first_moves made start → Some due ≡ next_due at s → after ≡ move due s → after ≡ after_first_moves (made + 1) start
one_more made start s after at due here next moves =
    let more : suc made ≡ made + 1 = omega arith in
    moves ∙ sym (moved_by s due (next_is_first at s due next)) ∙ ap after_first_move here ∙ sym (moved_more made start) ∙ ap (λ n. after_first_moves n start) more
