-- The record of an event, and how long it may be.
use Rattle.std.specs.Prelude.{◌≡◌, true, ◌≤◌, ◌*◌, List, [], ◌∷◌, ◌++◌, length, Result, Ok, Err}
use Rattle.amr_events.specs.Actions.Events.{Event, is_label}
use Rattle.amr_events.specs.declared.posts.reason.Reason.{Reason}
use Rattle.amr_engine.specs.declared.state.change.Change.{Change}
use Rattle.amr_engine.specs.State.Kept.{Kept, GrownBy, before_open_record}
use Rattle.amr_engine.specs.State.Records.{put_back}
use Rattle.amr_engine.specs.State.Steps.{Steps}
use Rattle.amr_engine.specs.Events.{after_event}
use Rattle.amr_engine.specs.Weight.{event_weight}
use Rattle.amr_engine.specs.declared.apply.Done.{Done}
use Rattle.amr_engine.specs.declared.outcome.Outcome.{Outcome}
use Rattle.amr_engine.specs.declared.outcome.Outcome.TheVariants.{Accepted, Refused}

abbrev pub Records : Type 0
Records = List (List Change)

-- a refused event displaces nothing
abbrev pub IsEmptyIfRefused : Outcome → List Change → Type 0
IsEmptyIfRefused (Accepted moves notes skipped) r = Unit {0}
IsEmptyIfRefused (Refused reason) r = r ≡ []

-- The last record leads back to the state before the event, and has at most four entries for each
-- unit of the event's weight. That of a label has none.
pub record RecordOf (before : Steps) (event : Event) (after : Steps) (outcome : Outcome) (r : List Change) : Type 0 where
  pub added : after.records ≡ before.records ++ r ∷ []
  pub back : put_back r after.state ≡ before.state
  pub empty : IsEmptyIfRefused outcome r
  pub label : is_label event.act ≡ true → r ≡ []
  pub short : length r ≤ 4 * event_weight before.state event after.state

-- the open record grew by at most four entries for each unit of the event's weight
abbrev pub IsLight : Kept → Event → Kept → Type 0
IsLight before event after = GrownBy (4 * event_weight before.state event after.state) before after

abbrev pub IsLightIfDone : Kept → Event → Kept → Result Done Reason → Type 0
IsLightIfDone before event after (Ok done) = IsLight before event after
IsLightIfDone before event after (Err reason) = Unit {0}

-- what an event leaves: its open record leads back to the store before, and is empty if the event is
-- refused
pub record Settled (begun : Kept) (event : Event) (left : Kept) (outcome : Outcome) : Type 0 where
  pub undone_is : before_open_record left ≡ begun
  pub state : left.state ≡ after_event begun.state event
  pub empty : IsEmptyIfRefused outcome left.current
  pub short : length left.current ≤ 4 * event_weight begun.state event left.state
