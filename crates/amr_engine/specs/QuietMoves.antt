-- Which of the moves from a state only set a group timer.
use Rattle.std.specs.Prelude.{◌≡◌, ℕ, zero, suc, Bool, true, if◌then◌else◌, ◌==◌, ◌&&◌, nat_lt, List, [], ◌∷◌, ◌++◌, Option, Some, length}
use Rattle.std.specs.Option.{option_map_or}
use Rattle.amr_config.specs.RouteLabels.{on_route}
use Rattle.amr_engine.specs.State.State.{State}
use Rattle.amr_engine.specs.State.Dues.{Due, dues, least_due}
use Rattle.amr_engine.specs.Moves.{move}
use Rattle.amr_engine.specs.Quiet.{with_timer_reset}

-- the timer that fires first, whenever that is
abbrev pub first_due : State → Option Due
first_due s = least_due (dues s)

-- the state after the first timer fired
abbrev pub after_first_move : State → State
after_first_move s = option_map_or (λ due. move due s) (first_due s) s

abbrev pub after_first_moves : ℕ → State → State
after_first_moves zero s = s
after_first_moves (suc n) s = after_first_moves n (after_first_move s)

-- the move only sets a group timer
abbrev pub OnlySets : State → Due → Type 0
OnlySets s due = move due s ≡ with_timer_reset due.moment (on_route due.route due.labels) s

-- the first move from a state only sets a group timer
abbrev pub IsQuietMove : State → Type 0
IsQuietMove s = (due : Due) → first_due s ≡ Some due → OnlySets s due

-- the moves from a state for which the list says so only set a group timer
abbrev pub AreQuietMoves : List Bool → State → Type 0
AreQuietMoves [] s = Unit {0}
AreQuietMoves (quiet ∷ rest) s = (quiet ≡ true → IsQuietMove s) × AreQuietMoves rest (after_first_move s)

-- this many moves from a state are noted at most
abbrev pub most_noted : ℕ
most_noted = 10_000

-- one more move is noted, if it comes after those that are, and they aren't too many
abbrev pub with_move_noted : ℕ → Bool → List Bool → List Bool
with_move_noted made quiet moves = if (made == length moves) && nat_lt made most_noted then moves ++ quiet ∷ [] else moves
