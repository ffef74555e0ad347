use Rattle.std.proofs.Common.{◌≡◌, ◌-◌, List, ℕ}
use Rattle.std.specs.Io.KnownBytes.{Consumes}
use Rattle.amreplay.specs.Commands.Replies.{incident_of}
use Rattle.amreplay.specs.Commands.Converse.{Stands}
use Rattle.amreplay.proofs.commands.conversation.converse.Given as goal

abbrev pub invariant-loop-line : goal.invariant-loop-line
invariant-loop-line g l = record {
  stands : ((incident_of l.session) ≡ (incident_of l.initial.session))
      × (bytes : List ℕ) × Consumes (g.R.Read.remaining l.initial.commands.reader) (g.R.Read.remaining l.commands.reader) bytes
      × Stands (incident_of l.initial.session) (g.W.Write.contents l.initial.out.writer) (g.W.Write.contents l.out.writer) bytes l.session.cursor l.line;
  read : l.commands.failed ≡ l.initial.commands.failed;
  written : l.out.failed ≡ l.initial.out.failed;
}

abbrev pub decreases-loop-line : goal.decreases-loop-line
decreases-loop-line g l = 1_099_511_627_776 - l.commands.calls
