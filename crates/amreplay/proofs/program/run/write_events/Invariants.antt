-- The engine has applied the events before this one, and dropped their notifications; their lines
-- are written.
use Rattle.std.proofs.Common.{◌≡◌, take}
use Rattle.std.specs.Io.KnownBytes.{Appends}
use Rattle.amr_engine.specs.Events.{run_of, without_notifications}
use Rattle.amreplay.specs.Program.Runs.{run_lines}
use Rattle.amreplay.proofs.program.run.write_events.Given as goal

abbrev pub invariant-loop-number : goal.invariant-loop-number
invariant-loop-number g l = record {
  state : l.engine.state ≡ without_notifications (run_of l.initial.engine.state.config (take l.number l.script.events));
  written : Appends (g.W.Write.contents l.initial.out.writer) (g.W.Write.contents l.out.writer) (run_lines l.initial.engine.state.config (take l.number l.script.events));
  failed : l.out.failed ≡ l.initial.out.failed;
}
