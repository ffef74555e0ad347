-- A state with the states before each of the events that led to it, and the records of these
-- events.
use Rattle.std.specs.Prelude.{List}
use Rattle.amr_engine.specs.declared.state.change.Change.{Change}
use Rattle.amr_engine.specs.State.State.{State}

pub record Steps : Type 0 where
  pub state : State
  pub past : List State
  pub records : List (List Change)
