-- What a session holds.
use Rattle.std.specs.Prelude.{◌≡◌, ◌≤◌, length, take}
use Rattle.amr_engine.specs.State.State.{start}
use Rattle.amr_replay.specs.Session.{View, at_cursor}
use Rattle.amr_replay.specs.Records.{AreRecords}
use Rattle.amr_replay.specs.QuietEvents.{AreNoted}
use Rattle.amr_replay.specs.declared.session.Session.TheInside.{Inside}

abbrev pub view_of : Inside → View
view_of session = record {
  config = session.config;
  version = session.script.version;
  events = session.script.events;
  cursor = session.cursor;
  state = session.engine.state;
  past = session.engine.past;
}

-- The session shows the run of the events before its cursor, and has one record for each of them.
-- What it notes of moves holds.
pub record IsAtCursor (session : Inside) : Type 0 where
  pub view : view_of session ≡ at_cursor session.config session.script.version session.script.events session.cursor
  pub within : session.cursor ≤ length session.script.events
  pub records : AreRecords (start session.config) (take session.cursor session.script.events) session.engine.records
  pub quiet : AreNoted session.config session.script.events session.quiet_events
