-- The outcome of an event and the state after it, by relations: an accepted event does what `Does`
-- says, and a refused one is refused for the reason that `Refuses` gives.
use Rattle.std.specs.Prelude.{◌≡◌, ◌↔◌, ℕ, true, ◌<◌, ◌≤◌, List, [], Some, None, length, drop}
use Rattle.amr_time.specs.Time.{Moment}
use Rattle.amr_events.specs.Posts.Reasons.{Reason}
use Rattle.amr_events.specs.Actions.Events.{Event, is_label}
use Rattle.amr_engine.specs.declared.state.notification.Notification.{Notification}
use Rattle.amr_engine.specs.State.State.{State}
use Rattle.amr_engine.specs.State.Dues.{Due, dues, next_due}
use Rattle.amr_engine.specs.Events.{Accepted, Refused, outcome_of, after_event, at_moment, skipped_of, move_limit}
use Rattle.amr_engine.specs.Said.{Does, Refuses, IsIn, IsLeast}

-- The event makes these moves, as `Does` says, and leads to the state after it. Its outcome has
-- their number, the notifications that were appended, and the positions of the alerts that were
-- skipped.
pub record IsDone (s : State) (event : Event) (count : ℕ) (notes : List Notification) (skipped : List ℕ) : Type 0 where
  pub moves : List Due
  pub does : Does move_limit s event moves (after_event s event)
  pub count_is : count ≡ length moves
  pub notes_are : notes ≡ drop (length s.notes) (after_event s event).notes
  pub skipped_are : skipped ≡ skipped_of (at_moment event.at s) event.act

-- an event is accepted exactly if it does what `Does` says
abbrev pub AcceptedIsDone : Type 0
AcceptedIsDone = (s : State) (event : Event) (count : ℕ) (notes : List Notification) (skipped : List ℕ)
    → (outcome_of s event ≡ Accepted count notes skipped) ↔ IsDone s event count notes skipped

-- an event is refused exactly for the reason that `Refuses` gives
abbrev pub RefusedIsSaid : Type 0
RefusedIsSaid = (s : State) (event : Event) (reason : Reason) → (outcome_of s event ≡ Refused reason) ↔ Refuses move_limit s event reason

-- the state after an event is the one that `Does` gives, and after a refused event the one before
-- it
abbrev pub StateIsSaid : Type 0
StateIsSaid = (s : State) (event : Event) (moves : List Due) (after : State) → Does move_limit s event moves after → after_event s event ≡ after

abbrev pub RefusedIsLeft : Type 0
RefusedIsLeft = (s : State) (event : Event) (reason : Reason) → Refuses move_limit s event reason → after_event s event ≡ s

-- a label is accepted, whatever its moment; it makes no moves and leaves the state as it is
abbrev pub LabelsChangeNothing : Type 0
LabelsChangeNothing = (s : State) (event : Event) → is_label event.act ≡ true → (outcome_of s event ≡ Accepted 0 [] []) × (after_event s event ≡ s)

-- the next move is the least of all that is due, if that is due by the moment
abbrev pub NextIsLeast : Type 0
NextIsLeast = (at : Moment) (s : State) (due : Due) → (next_due at s ≡ Some due) ↔ (IsLeast due (dues s) × (due.moment ≤ at))

-- there is no next move exactly if all that is due is due later
abbrev pub NoneIsLater : Type 0
NoneIsLater = (at : Moment) (s : State) → (next_due at s ≡ None) ↔ ((due : Due) → IsIn due (dues s) → at < due.moment)
