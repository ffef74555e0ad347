-- The records of the events that a session has passed.
use Rattle.std.specs.Prelude.{◌≡◌, true, ◌≤◌, ◌*◌, ℕ, List, [], ◌∷◌, length}
use Rattle.amr_events.specs.Posts.Reasons.{Reason}
use Rattle.amr_events.specs.Actions.Events.{Event, is_label}
use Rattle.amr_engine.specs.declared.state.change.Change.{Change}
use Rattle.amr_engine.specs.State.State.{State}
use Rattle.amr_engine.specs.State.Records.{put_back}
use Rattle.amr_engine.specs.Weight.{event_weight}
use Rattle.amr_engine.specs.Events.{Refused, outcome_of, after_event}

-- The record of an event leads from the state after the event back to the state before it, and has
-- at most four entries for each unit of the event's weight. That of a refused event or of a label
-- has no entry.
pub record IsRecord (s : State) (event : Event) (entries : List Change) : Type 0 where
  pub back : put_back entries (after_event s event) ≡ s
  pub empty : (reason : Reason) → outcome_of s event ≡ Refused reason → entries ≡ []
  pub label : is_label event.act ≡ true → entries ≡ []
  pub short : length entries ≤ 4 * event_weight s event (after_event s event)

-- there is one record for each of the events from a state, in order
abbrev pub AreRecords : State → List Event → List (List Change) → Type 0
AreRecords s [] [] = Unit {0}
AreRecords s [] (entries ∷ records) = ⊥
AreRecords s (event ∷ events) [] = ⊥
AreRecords s (event ∷ events) (entries ∷ records) = IsRecord s event entries × AreRecords (after_event s event) events records

-- a record of the event has this many entries
abbrev pub HasEntries : State → Event → ℕ → Type 0
HasEntries s event n = (entries : List Change) × IsRecord s event entries × (length entries ≡ n)
