-- Records of events: changes that lead back, and how an event is undone.
use Rattle.std.specs.Prelude.{List, [], ◌∷◌, take}
use Rattle.amr_labels.specs.Map.{set}
use Rattle.amr_engine.specs.declared.state.change.Change.{Change}
use Rattle.amr_engine.specs.declared.state.change.Change.TheVariants.{OfMoment, OfRoster, OfAlert, OfSilence, OfMember, OfTimer, OfLog, OfNotes}
use Rattle.amr_tables.specs.Numbered.{map_of}
use Rattle.amr_config.specs.RouteLabels.{route_labels_cmp}
use Rattle.amr_engine.specs.State.State.{State}

-- the state after a change: with the change's value at its place
abbrev pub after_change : State → Change → State
after_change s (OfMoment moment) = record s { moment = moment }
after_change s (OfRoster roster) = record s { config = roster.config; placements = map_of route_labels_cmp roster.placements; timers = map_of route_labels_cmp roster.timers }
after_change s (OfAlert labels alert) = record s { alerts = set s.alerts labels alert }
after_change s (OfSilence id silence) = record s { silences = set s.silences id silence }
after_change s (OfMember member alert) = record s { placements = set s.placements member alert }
after_change s (OfTimer group timer) = record s { timers = set s.timers group timer }
after_change s (OfLog key entry) = record s { log = set s.log key entry }
after_change s (OfNotes count) = record s { notes = take count s.notes }

-- a record is undone from its last entry to its first
unfoldable pub put_back : List Change → State → State
put_back [] s = s
put_back (first ∷ rest) s = after_change (put_back rest s) first

-- the state before the records, the oldest first, given the state after them
unfoldable pub before_all : List (List Change) → State → State
before_all [] s = s
before_all (first ∷ rest) s = put_back first (before_all rest s)

-- the states before each of the records
unfoldable pub befores : List (List Change) → State → List State
befores [] s = []
befores (first ∷ rest) s = before_all (first ∷ rest) s ∷ befores rest s
