use Rattle.std.proofs.Common.{◌≡◌, ◌+◌, drop}
use Rattle.amr_replay.specs.Session.{events_until}
use Rattle.amr_replay.proofs.session.events_until.Given as goal

abbrev pub invariant-loop-n : goal.invariant-loop-n
invariant-loop-n l = l.n + events_until l.at (drop l.n l.script.events) ≡ events_until l.at l.script.events
