-- What the tables and the journal of a store mean as a state with its records.
use Rattle.std.specs.Prelude.{◌≡◌, ◌≤◌, ◌++◌, ◌∷◌, [], ℕ, List, Some, IsTrue, length}
use Rattle.std.specs.List.{flat_map}
use Rattle.std.specs.Ordering.{nat_cmp}
use Rattle.amr_labels.specs.Map.{get}
use Rattle.amr_labels.specs.Labels.{LabelSet, label_set_cmp}
use Rattle.amr_time.specs.Time.{latest_read}
use Rattle.amr_tables.specs.Numbered.{map_of, has_place, number_of}
use Rattle.amr_tables.specs.Records.{Records}
use Rattle.amr_config.specs.declared.route_labels.RouteLabels.{RouteLabels}
use Rattle.amr_engine.specs.declared.state.notification.LogKey.{LogKey}
use Rattle.amr_engine.specs.declared.state.change.Change.{Change}
use Rattle.amr_engine.specs.declared.state.change.Change.TheVariants.{OfMoment, OfRoster, OfAlert, OfSilence, OfMember, OfTimer, OfLog, OfNotes}
use Rattle.amr_engine.specs.declared.state.tables.Tables.{Tables}
use Rattle.amr_config.specs.RouteLabels.{route_labels_cmp}
use Rattle.amr_engine.specs.State.State.{State, log_key_cmp}
use Rattle.amr_engine.specs.State.Kept.{Kept}
use Rattle.amr_engine.specs.declared.state.store.Store.TheInside.{Inside}

-- the state that the tables show
abbrev pub shown_by : Tables → State
shown_by tables = record {
  moment = tables.moment;
  config = tables.roster.config;
  alerts = map_of label_set_cmp tables.alerts;
  silences = map_of nat_cmp tables.silences;
  placements = map_of route_labels_cmp tables.roster.placements;
  timers = map_of route_labels_cmp tables.roster.timers;
  log = map_of log_key_cmp tables.log;
  notes = tables.notes.items;
}

abbrev pub state_of : Inside → State
state_of store = shown_by store.tables

-- the state and the records
abbrev pub kept_of : Inside → Kept
kept_of store = record {
  state = state_of store;
  current = store.journal.current;
  records = store.journal.closed;
  room = store.journal.record_room;
}

-- an entry can be put back: its place exists
abbrev pub IsSound : Tables → Change → Type 0
IsSound tables (OfMoment moment) = moment ≤ latest_read
IsSound tables (OfRoster roster) = Unit {0}
IsSound tables (OfAlert labels alert) = IsTrue (has_place label_set_cmp tables.alerts labels)
IsSound tables (OfSilence id silence) = IsTrue (has_place nat_cmp tables.silences id)
IsSound tables (OfMember member alert) = IsTrue (has_place route_labels_cmp tables.roster.placements member)
IsSound tables (OfTimer group timer) = IsTrue (has_place route_labels_cmp tables.roster.timers group)
IsSound tables (OfLog key entry) = IsTrue (has_place log_key_cmp tables.log key)
IsSound tables (OfNotes count) = Unit {0}

-- the tables with the roster of an entry, if it is of the roster
abbrev pub with_roster : Tables → Change → Tables
with_roster tables (OfRoster roster) = record tables { roster = roster }
with_roster tables _ = tables

-- the tables with the roster that the entries put back
unfoldable pub roster_back : List Change → Tables → Tables
roster_back [] tables = tables
roster_back (first ∷ rest) tables = with_roster (roster_back rest tables) first

-- each entry can be put back after those behind it, with the roster of that time
unfoldable pub AreSound : List Change → Tables → Type 0
AreSound [] tables = Unit {0}
AreSound (first ∷ rest) tables = AreSound rest tables × IsSound (roster_back rest tables) first

-- the same place with its present value; for the notifications, their present number
abbrev pub change_back : Tables → Change → Change
change_back tables (OfMoment moment) = OfMoment tables.moment
change_back tables (OfRoster roster) = OfRoster tables.roster
change_back tables (OfAlert labels alert) = OfAlert labels (get (map_of label_set_cmp tables.alerts) labels)
change_back tables (OfSilence id silence) = OfSilence id (get (map_of nat_cmp tables.silences) id)
change_back tables (OfMember member alert) = OfMember member (get (map_of route_labels_cmp tables.roster.placements) member)
change_back tables (OfTimer group timer) = OfTimer group (get (map_of route_labels_cmp tables.roster.timers) group)
change_back tables (OfLog key entry) = OfLog key (get (map_of log_key_cmp tables.log) key)
change_back tables (OfNotes count) = OfNotes (length tables.notes.items)

-- the number is that of the change's place; the clock, the roster and the notifications are in no
-- table
abbrev pub IsPlaceOf : Tables → Change → ℕ → Type 0
IsPlaceOf tables (OfAlert labels alert) n = number_of label_set_cmp tables.alerts labels ≡ Some n
IsPlaceOf tables (OfSilence id silence) n = number_of nat_cmp tables.silences id ≡ Some n
IsPlaceOf tables (OfMember member alert) n = number_of route_labels_cmp tables.roster.placements member ≡ Some n
IsPlaceOf tables (OfTimer group timer) n = number_of route_labels_cmp tables.roster.timers group ≡ Some n
IsPlaceOf tables (OfLog key entry) n = number_of log_key_cmp tables.log key ≡ Some n
IsPlaceOf tables _ n = Unit {0}

-- the second tables have all places of the first
pub record MorePlaces (a b : Tables) : Type 0 where
  pub alerts : (k : LabelSet) → IsTrue (has_place label_set_cmp a.alerts k) → IsTrue (has_place label_set_cmp b.alerts k)
  pub silences : (k : ℕ) → IsTrue (has_place nat_cmp a.silences k) → IsTrue (has_place nat_cmp b.silences k)
  pub placements : (k : RouteLabels) → IsTrue (has_place route_labels_cmp a.roster.placements k) → IsTrue (has_place route_labels_cmp b.roster.placements k)
  pub timers : (k : RouteLabels) → IsTrue (has_place route_labels_cmp a.roster.timers k) → IsTrue (has_place route_labels_cmp b.roster.timers k)
  pub log : (k : LogKey) → IsTrue (has_place log_key_cmp a.log k) → IsTrue (has_place log_key_cmp b.log k)

-- both tables have the same values
pub record SameValues (a b : Tables) : Type 0 where
  pub moment : b.moment ≡ a.moment
  pub config : b.roster.config ≡ a.roster.config
  pub alerts : map_of label_set_cmp b.alerts ≡ map_of label_set_cmp a.alerts
  pub silences : map_of nat_cmp b.silences ≡ map_of nat_cmp a.silences
  pub placements : map_of route_labels_cmp b.roster.placements ≡ map_of route_labels_cmp a.roster.placements
  pub timers : map_of route_labels_cmp b.roster.timers ≡ map_of route_labels_cmp a.roster.timers
  pub log : map_of log_key_cmp b.log ≡ map_of log_key_cmp a.log
  pub notes : b.notes.items ≡ a.notes.items

-- The tables show the same, perhaps with more places, and the journal has the same records, with as
-- much room for further ones.
pub record IsRoomier (a : Tables) (journal : Records Change) (b : Tables) (written : Records Change) : Type 0 where
  pub values : SameValues a b
  pub places : MorePlaces a b
  pub closed : written.closed ≡ journal.closed
  pub current : written.current ≡ journal.current
  pub room : written.record_room ≡ journal.record_room

-- The open record has an entry more, which leads back from the change.
pub record IsEntered (a : Tables) (journal : Records Change) (change : Change) (written : Records Change) : Type 0 where
  pub current : written.current ≡ journal.current ++ change_back a change ∷ []
  pub closed : written.closed ≡ journal.closed
  pub room : written.record_room ≡ journal.record_room

-- the entries of all records, the oldest first
abbrev pub entries_of : Inside → List Change
entries_of store = flat_map (λ closed. closed) store.journal.closed ++ store.journal.current

-- Every record can be undone.
pub record IsKept (store : Inside) : Type 0 where
  pub moment : store.tables.moment ≤ latest_read
  pub sound : AreSound (entries_of store) store.tables
