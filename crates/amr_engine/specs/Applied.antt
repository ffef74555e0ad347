-- What applying an event leaves, and what it returns.
use Rattle.std.specs.Prelude.{◌≡◌, ℕ, List, Option, Result, Ok, Err, length, drop}
use Rattle.std.specs.Option.{option_map}
use Rattle.amr_time.specs.Time.{Moment}
use Rattle.amr_events.specs.Actions.Events.{Event}
use Rattle.amr_events.specs.declared.posts.reason.Reason as code
use Rattle.amr_events.specs.Posts.Reasons.{reason_number}
use Rattle.amr_engine.specs.State.Dues.{Due}
use Rattle.amr_engine.specs.State.State.{State}
use Rattle.amr_engine.specs.declared.apply.Done.{Done}
use Rattle.amr_engine.specs.Events.{Outcome, after_event, outcome_of, at_moment}
use Rattle.amr_engine.specs.Outcomes.{acceptance, refusal}

-- the number of the moves, and the state after them with the clock at the moment
abbrev pub run_moved : Moment → Option (List Due × State) → Option (ℕ × State)
run_moved at run = option_map (λ r. (length r.0, at_moment at r.1)) run

-- the state after the event, and its outcome
pub record ComesTo (s : State) (event : Event) (after : State) (notified : Outcome) : Type 0 where
  pub state : after ≡ after_event s event
  pub outcome : notified ≡ outcome_of s event

-- the state that is left: the next one if the event was done, and the one before if there is a
-- reason against it
abbrev pub state_left : State → State → Result Done code.Reason → State
state_left s next (Ok done) = next
state_left s next (Err reason) = s

-- the outcome that is returned
abbrev pub answer_of : State → State → Result Done code.Reason → Outcome
answer_of s next (Ok done) = acceptance done.moves (drop (length s.notes) next.notes) done.skipped
answer_of s next (Err reason) = refusal (reason_number reason)

-- what was done and the next state are what the event leads to
abbrev pub IsDone : State → Event → State → Result Done code.Reason → Type 0
IsDone s event next done = ComesTo s event (state_left s next done) (answer_of s next done)
