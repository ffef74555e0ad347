use Rattle.std.proofs.Common.{◌≡◌, ◌≤◌}
use Rattle.amr_replay.proofs.session.Session.rewind.Given as goal

abbrev pub invariant-loop-self : goal.invariant-loop-self
invariant-loop-self l = record {
  config : l.self.config ≡ l.fn.self.config;
  version : l.self.version ≡ l.fn.self.version;
  events : l.self.events ≡ l.fn.self.events;
  above : l.to ≤ l.self.cursor;
}

abbrev pub decreases-loop-self : goal.decreases-loop-self
decreases-loop-self l = l.self.cursor
