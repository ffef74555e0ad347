-- Events leave the alerts placed, and so does a run.
use Rattle.std.proofs.Common.{[], ◌≡◌, List, ◌∷◌, ◌++◌, Some, Ok, All, refl, sym, subst, arith}
use Rattle.std.proofs.lemmas.List.Elements.{All-nil, All-push, All-pop}
use Rattle.amr_labels.specs.Map.{get-empty}
use Rattle.amr_labels.specs.Labels.{LabelSet, label_set_cmp}
use Rattle.amr_time.specs.Time.{Moment}
use Rattle.amr_config.specs.Stated.Config.{Config}
use Rattle.amr_rules.specs.declared.alert.Alert.{Alert}
use Rattle.amr_events.specs.Actions.Events.{Event, Act}
use Rattle.amr_config.specs.RouteLabels.{on_route, route_labels_cmp}
use Rattle.amr_engine.specs.State.State.{State, start}
use Rattle.amr_engine.specs.State.Dues.{Due, next_due}
use Rattle.amr_engine.specs.Moves.{move}
use Rattle.amr_engine.specs.Events.{with_silences, after_act, at_moment, after_event, run_of, without_notifications}
use Rattle.amr_engine.specs.Placed.{IsPlaced, ArePlaced, StayPlaced, HasTimers}
use Rattle.amr_engine.proofs.Invariant.{act_holds, holds_after_event, holds_after_run}
use Rattle.amr_engine.proofs.PlacedPosts.{placed_as, post_placed, post_moment, reload_placed, reload_moment}
use Rattle.amr_engine.proofs.PlacedFlush.{placed_later}
use Rattle.amr_engine.proofs.PlacedMoves.{move_placed}
use Rattle.amr_engine.proofs.Lasting.{next_is_due}

-- ---- moves

-- the next move leaves the alerts placed
due_placed : (at : Moment) (s : State) (due : Due) → next_due at s ≡ Some due → IsPlaced at s → IsPlaced at (move due s)
due_placed at s due e = let next = next_is_due at s due e in move_placed at s due next.0 next.1

-- ---- actions

-- the alerts are still placed, and the clock stands still
record Follows (at : Moment) (s after : State) : Type 0 where
  pub placed : IsPlaced at s → IsPlaced at after
  pub moment : after.moment ≡ s.moment

act_placed : (s : State) (act : Act) (after : State) → ArePlaced s → after_act s act ≡ Ok after → ArePlaced after
act_placed s act after placed e =
    let follows : Follows s.moment s after =
    act_holds (Follows s.moment s) s (record { placed = λ placed. placed; moment = refl }) (λ alerts. record { placed = post_placed s.moment alerts s; moment = post_moment alerts s })
    (λ silences. record { placed = placed_as s.moment s (with_silences s silences) refl refl refl refl; moment = refl })
    (λ config. record { placed = λ placed. reload_placed s.moment s config; moment = reload_moment s.moment s config }) act after e in
    subst (λ (at : Moment). IsPlaced at after) (sym follows.moment) (follows.placed placed)

-- ---- events

clock_placed : (at : Moment) (s : State) → IsPlaced at s → IsPlaced at (at_moment at s)
clock_placed at s = placed_as at s (at_moment at s) refl refl refl refl

pub event_placed : (s : State) (event : Event) → ArePlaced s → ArePlaced (after_event s event)
event_placed = holds_after_event IsPlaced placed_later clock_placed due_placed act_placed

-- ---- runs

pub start_placed : (config : Config) → ArePlaced (start config)
start_placed config = grind (arith, get-empty {X = Alert} label_set_cmp, get-empty {X = Alert} route_labels_cmp)

-- after every run, the alerts that aren't resolved are placed
pub run_placed : (config : Config) (events : List Event) → ArePlaced (run_of config events)
run_placed config events = holds_after_run IsPlaced placed_later clock_placed due_placed act_placed config events (start_placed config)

-- ---- an engine's state, and those before it

-- with none before
alone_stays : (after : State) (past : List State) → ArePlaced after → past ≡ [] → StayPlaced after past
alone_stays after past placed none = record { now = placed; before = subst (All ArePlaced) (sym none) (All-nil ArePlaced) }

-- at the start
pub start_stays : (config : Config) (s : State) (past : List State) → s ≡ start config → past ≡ [] → StayPlaced s past
start_stays config s past is = alone_stays s past (subst ArePlaced (sym is) (start_placed config))

-- after an event
pub applied_stays : (s after : State) (before past : List State) (event : Event) → after ≡ after_event s event → past ≡ before ++ s ∷ [] → StayPlaced s before → StayPlaced after past
applied_stays s after before past event is added placed = record {
  now = subst ArePlaced (sym is) (event_placed s event placed.now);
  before = subst (All ArePlaced) (sym added) (All-push ArePlaced before s placed.before placed.now);
}

-- after an event that is undone
pub undone_stays : (s after : State) (before past : List State) → before ≡ past ++ after ∷ [] → StayPlaced s before → StayPlaced after past
undone_stays s after before past is placed =
    let parts = All-pop ArePlaced before past (Some after) is placed.before in record { now = parts.1; before = parts.0 }

-- after the events are forgotten
pub forgotten_stays : (s after : State) (before past : List State) → after ≡ s → past ≡ [] → StayPlaced s before → StayPlaced after past
forgotten_stays s after before past is none placed = alone_stays after past (subst ArePlaced (sym is) placed.now) none

-- after the notifications are dropped
pub dropped_stays : (s after : State) (before past : List State) → after ≡ without_notifications s → past ≡ [] → StayPlaced s before → StayPlaced after past
dropped_stays s after before past is none placed =
    alone_stays after past (subst ArePlaced (sym is) (placed_as s.moment s (without_notifications s) refl refl refl refl placed.now)) none

-- ---- the groups of an alert

-- where the alerts are placed, the groups of each have timers
pub has_timers : (s : State) (labels : LabelSet) → ArePlaced s → HasTimers s labels
has_timers s labels placed alert is fires route takes =
    placed.timed (on_route route labels) alert (placed.copied labels alert is fires route takes)
