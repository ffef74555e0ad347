use Rattle.std.proofs.Common.{◌≡◌, ◌≤◌, ◌-◌, ◌++◌, map}
use Rattle.amr_engine.specs.Outcomes.{outcome_view}
use Rattle.amr_replay.specs.Session.{outcomes_passed}
use Rattle.amr_replay.proofs.session.Session.forward.Given as goal

-- the outcomes so far, and those that are left, are all
abbrev pub invariant-loop-self : goal.invariant-loop-self
invariant-loop-self l = record {
  config : l.self.config ≡ l.fn.self.config;
  version : l.self.version ≡ l.fn.self.version;
  events : l.self.events ≡ l.fn.self.events;
  from : l.fn.self.cursor ≤ l.self.cursor;
  to : l.self.cursor ≤ l.to;
  told : map outcome_view l.outcomes.items ++ outcomes_passed l.fn.self.config l.fn.self.events l.self.cursor l.to ≡ outcomes_passed l.fn.self.config l.fn.self.events l.fn.self.cursor l.to;
}

abbrev pub decreases-loop-self : goal.decreases-loop-self
decreases-loop-self l = l.to - l.self.cursor
