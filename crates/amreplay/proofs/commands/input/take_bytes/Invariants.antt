use Rattle.std.proofs.Common.{◌≡◌, List, ℕ, Option, ◌++◌, take}
use Rattle.amreplay.specs.Commands.Replies.{incident_of}
use Rattle.amreplay.specs.Commands.Talk.{Progress}
use Rattle.amreplay.specs.CommandLines.Line.{Holds}
use Rattle.amreplay.specs.Commands.Converse.{Stands}
use Rattle.amreplay.proofs.commands.input.take_bytes.Given as goal

abbrev pub invariant-loop-b : goal.invariant-loop-b
invariant-loop-b g l = record {
  kept : (incident_of l.session) ≡ (incident_of l.initial.session);
  stands : (start : Option (List ℕ)) (before rest : List ℕ)
      → Progress (incident_of l.initial.session) start (g.W.Write.contents l.initial.out.writer) before l.initial.session.cursor rest → Holds l.initial.line rest
      → Stands (incident_of l.initial.session) start (g.W.Write.contents l.out.writer) (before ++ take l.b-index l.bytes) l.session.cursor l.line;
  failed : l.out.failed ≡ l.initial.out.failed;
}
