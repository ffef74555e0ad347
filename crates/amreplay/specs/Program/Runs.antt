-- What a run prints.
use Rattle.std.specs.Prelude.{ℕ, ◌+◌, List, [], ◌∷◌, ◌++◌, take, Option, Result, Ok, Err}
use Rattle.std.specs.Io.KnownBytes.{Appends}
use Rattle.amr_labels.specs.Labels.{Text}
use Rattle.amr_config.specs.Stated.Config.{Config}
use Rattle.amr_events.specs.Actions.Events.{Event}
use Rattle.amr_engine.specs.State.State.{State, start}
use Rattle.amr_engine.specs.Events.{outcome_of, after_event}
use Rattle.amreplay.specs.declared.fault.Fault.{Fault}
use Rattle.amreplay.specs.declared.fault.Fault.TheVariants.{CannotWrite, Memory}
use Rattle.amreplay.specs.Lines.CheckedWriter.{AppendsBeginning}
use Rattle.amreplay.specs.Lines.Printed.{event_lines}

-- the lines of events, one after another from a state; the first has the number n
abbrev pub lines_from : ℕ → State → List Event → Text
lines_from n s [] = []
lines_from n s (event ∷ events) = event_lines n event (outcome_of s event) ++ lines_from (n + 1) (after_event s event) events

-- the lines of the events of a run; the first has the number 1
unfoldable pub run_lines : Config → List Event → Text
run_lines config events = lines_from 1 (start config) events

-- What is left of a text in a writer: the text; `cut` if memory runs out; a prefix of the text if
-- the writer fails. No other fault comes.
abbrev pub LeavesText : Type 0 → Option Text → Option Text → Text → Result (Unit {0}) Fault → Type 0
LeavesText cut old new text (Ok u) = Appends old new text
LeavesText cut old new text (Err CannotWrite) = AppendsBeginning old new text
LeavesText cut old new text (Err Memory) = cut
LeavesText cut old new text (Err fault) = ⊥

-- what is left of the lines of an event: nothing if memory runs out
abbrev pub Leaves : Option Text → Option Text → Text → Result (Unit {0}) Fault → Type 0
Leaves old new text r = LeavesText (Appends old new []) old new text r

-- what is left of the lines of a run: those of the first events if memory runs out
abbrev pub RunLeaves : Option Text → Option Text → Config → List Event → Result (Unit {0}) Fault → Type 0
RunLeaves old new config events r = LeavesText ((k : ℕ) × Appends old new (run_lines config (take k events))) old new (run_lines config events) r
