-- What integrations were notified of, in every run.
use Rattle.std.specs.Prelude.{◌≡◌, List, ◌∷◌, ◌++◌}
use Rattle.amr_config.specs.Stated.Config.{Config}
use Rattle.amr_events.specs.Actions.Events.{Event}
use Rattle.amr_engine.specs.State.Dues.{Due}
use Rattle.amr_engine.specs.declared.state.due.Kind.TheVariants.{GroupFlush}
use Rattle.amr_config.specs.RouteLabels.{on_route}
use Rattle.amr_engine.specs.State.State.{State}
use Rattle.amr_engine.specs.Moves.{move}
use Rattle.amr_engine.specs.Events.{run_of, move_limit}
use Rattle.amr_engine.specs.Neutral.{Accepts}
use Rattle.amr_engine.specs.Told.{LogIsNotified, AllAreNotified, RepeatsWait, after_moves}

-- in every run, each alert that an entry of the log has among those that fire is in the entry's
-- notification
abbrev pub LogsAreNotified : Type 0
LogsAreNotified = (config : Config) (events : List Event) → LogIsNotified (run_of config events)

-- In every run, after each flush among the moves of an accepted event, each integration of the
-- group's receiver was notified of each member that fires then and that no stage mutes.
abbrev pub FlushesTell : Type 0
FlushesTell = (config : Config) (events : List Event) (event : Event) (moves : List Due) (after : State)
    → Accepts move_limit (run_of config events) event moves after
    → (before later : List Due) (flush : Due) → moves ≡ before ++ flush ∷ later → flush.kind ≡ GroupFlush
    → let s : State = after_moves (run_of config events) before in
    AllAreNotified s flush.moment (on_route flush.route flush.labels) (move flush s)

-- At each flush, an entry of the log that has the same sets of alerts as the last one of its key is
-- that one, or was written after the route's repeat interval.
abbrev pub FlushesWait : Type 0
FlushesWait = (s : State) (flush : Due) → flush.kind ≡ GroupFlush → RepeatsWait s flush.route (move flush s)
