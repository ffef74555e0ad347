-- A whole session: what is printed for what was read.
use Rattle.std.specs.Prelude.{◌≡◌, ℕ, ◌+◌, ◌≤◌, List, [], ◌∷◌, ◌++◌, map, Option, Result, MatchResult, ◌⊎◌}
use Rattle.std.specs.Io.KnownBytes.{Appends, Consumes, IsAtEnd}
use Rattle.amr_labels.specs.Labels.{Text}
use Rattle.amreplay.specs.Lines.CheckedReader.{most_calls}
use Rattle.amreplay.specs.declared.command_lines.line.Line.{Line}
use Rattle.amreplay.specs.CommandLines.Line.{Holds}
use Rattle.amreplay.specs.Commands.Lines.{Cuts}
use Rattle.amreplay.specs.Commands.Replies.{Incident}
use Rattle.amreplay.specs.Commands.Talk.{AnsweredLine, AllMayBe, out, Progress, StopsShort, StopsInside}
use Rattle.amreplay.specs.declared.fault.Fault.{Fault}
use Rattle.amreplay.specs.declared.fault.Fault.TheVariants.{CannotReadCommands, CannotWrite}
use Rattle.amreplay.specs.declared.commands.conversation.Turn.{Turn}
use Rattle.amreplay.specs.declared.commands.conversation.Turn.TheVariants.{More, Ended}

-- The bytes are these lines and a last one without a line feed, and the output for all of them was
-- written.
pub record Printed (incident : Incident) (start now : Option Text) (bytes : Text) : Type 0 where
  pub heard : List AnsweredLine
  pub last : AnsweredLine
  pub cut : Cuts bytes (map (λ h. h.line) heard) last.line
  pub may_be : AllMayBe incident 0 (heard ++ last ∷ [])
  pub written : Appends start now (out incident 0 (heard ++ last ∷ []))

-- the session has answered the whole lines so far, and holds the rest
abbrev pub Stands : Incident → Option Text → Option Text → Text → ℕ → Line → Type 0
Stands incident start now bytes cursor line = (rest : Text) × Progress incident start now bytes cursor rest × Holds line rest

-- What is written if an end fails: the output for the whole lines that were read, or a prefix of
-- the output. No other fault comes.
abbrev pub PrintedAt : Fault → Incident → Option Text → Option Text → Text → Type 0
PrintedAt CannotReadCommands incident start now bytes = (cursor : ℕ) × (rest : Text) × Progress incident start now bytes cursor rest
PrintedAt CannotWrite incident start now bytes = StopsInside incident start now bytes ⊎ StopsShort incident start now bytes []
PrintedAt fault incident start now bytes = ⊥

-- a session from the start to its end, or to the end that failed
abbrev pub Converses : Incident → Option Text → Option Text → Option Text → Option Text → Result Unit Fault → Type 0
Converses incident source left start now r = (bytes : Text) × Consumes source left bytes × MatchResult r
    (λ _. IsAtEnd left × Printed incident start now bytes)
    (λ fault. PrintedAt fault incident start now bytes)

-- one read, and the lines that end in it
abbrev pub Turned : Turn → Incident → Option Text → Option Text → Option Text → Text → ℕ → Line → Type 0
Turned More incident left start now bytes cursor line = Stands incident start now bytes cursor line
Turned Ended incident left start now bytes cursor line = IsAtEnd left × Printed incident start now bytes

abbrev pub Turns : Incident → Option Text → Option Text → Option Text → Option Text → ℕ → ℕ → Line → Line → Result Turn Fault → Type 0
Turns incident left left' now now' cursor cursor' line line' r = (source start : Option Text) (bytes : Text)
    → Consumes source left bytes → Stands incident start now bytes cursor line
    → (bytes' : Text) × Consumes source left' bytes' × MatchResult r
    (λ turn. Turned turn incident left' start now' bytes' cursor' line')
    (λ fault. PrintedAt fault incident start now' bytes')

-- the reader was called once more
abbrev pub CountsTurn : Result Turn Fault → ℕ → ℕ → Type 0
CountsTurn r calls calls' = MatchResult r (λ _. (calls' ≡ calls + 1) × (calls' ≤ most_calls)) (λ _. Unit {0})
