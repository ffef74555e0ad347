-- A tick just before an event.
use Rattle.std.specs.Prelude.{◌≡◌, ℕ, List, ◌++◌, Ok}
use Rattle.amr_time.specs.Time.{Moment}
use Rattle.amr_events.specs.Actions.Events.{Event, Act}
use Rattle.amr_engine.specs.State.Dues.{Due}
use Rattle.amr_engine.specs.State.State.{State}
use Rattle.amr_engine.specs.Events.{do_within}

abbrev pub tick_at : Moment → Event
tick_at t = record { at = t; act = Act.Tick }

-- an event is accepted from a state, with these moves, and leads to this state
abbrev pub Accepts : ℕ → State → Event → List Due → State → Type 0
Accepts limit s event moves after = do_within limit s event ≡ Ok (moves, after)

-- the tick makes the first of the event's moves, and then the event the others, to the same state
pub record IsNeutral (limit : ℕ) (s : State) (event : Event) (t : Moment) (moves : List Due) (after : State) : Type 0 where
  pub made : List Due
  pub rest : List Due
  pub ticked : State
  pub parts : moves ≡ made ++ rest
  pub tick : Accepts limit s (tick_at t) made ticked
  pub event_then : Accepts limit ticked event rest after
