-- What a session prints: for each line that was read, a text, and the cursor after it.
use Rattle.std.specs.Prelude.{◌≡◌, ℕ, ◌<◌, ◌≤◌, All, List, [], ◌∷◌, ◌++◌, length, map, flat_map, Option, Result, MatchResult, ⊤}
use Rattle.std.specs.Io.KnownBytes.{Appends}
use Rattle.amr_labels.specs.Labels.{Text}
use Rattle.amreplay.specs.Lines.CheckedWriter.{AppendsBeginning}
use Rattle.amreplay.specs.declared.lines.word.Word.TheVariants as word
use Rattle.amreplay.specs.declared.command_lines.command.ParsedLine.{ParsedLine}
use Rattle.amreplay.specs.declared.command_lines.line.Line.{Line}
use Rattle.amreplay.specs.CommandLines.Line.{longest, Holds}
use Rattle.amreplay.specs.CommandLines.ParsedLine.{LineSays, word_of}
use Rattle.amreplay.specs.Commands.Lines.{Cuts, with_feed, IsOneLine}
use Rattle.amreplay.specs.Commands.Replies.{Incident, Reply, refusal_reply, reply_of, MayFindNoMemory}
use Rattle.amreplay.specs.declared.commands.answer.Refusal.TheVariants as refusal
use Rattle.amreplay.specs.Commands.Refusals.{refusal_number}

-- how a line ends: it is too long; memory ran out to hold it, or to parse or execute it; it is done
pub data LineOutcome : Type 0 where
  TooLong : LineOutcome
  NoMemory : LineOutcome
  Undone : ParsedLine → LineOutcome
  Done : ParsedLine → LineOutcome

-- a line that was read, and how it ended
pub record AnsweredLine : Type 0 where
  pub line : Text
  pub line_outcome : LineOutcome

-- what a line leaves
abbrev pub reply : Incident → ℕ → LineOutcome → Reply
reply incident cursor TooLong = refusal_reply cursor word.Unknown (refusal_number refusal.LineTooLong)
reply incident cursor NoMemory = refusal_reply cursor word.Unknown (refusal_number refusal.Memory)
reply incident cursor (Undone parsed) = refusal_reply cursor (word_of parsed) (refusal_number refusal.Memory)
reply incident cursor (Done parsed) = reply_of incident cursor parsed

-- A line may end like this. It is undone only if it takes memory, and memory to hold it can run out
-- only if it has a byte. So an empty line, like the one after a line feed at the end, prints
-- nothing.
abbrev pub MayBe : Incident → ℕ → Text → LineOutcome → Type 0
MayBe incident cursor line TooLong = longest < length line
MayBe incident cursor line NoMemory = (0 < length line) × (length line ≤ longest)
MayBe incident cursor line (Undone parsed) = (length line ≤ longest) × LineSays incident.version line parsed × MayFindNoMemory incident cursor parsed
MayBe incident cursor line (Done parsed) = (length line ≤ longest) × LineSays incident.version line parsed

-- the cursor after these lines
abbrev pub after : Incident → ℕ → List AnsweredLine → ℕ
after incident cursor [] = cursor
after incident cursor (h ∷ hs) = after incident ((reply incident cursor h.line_outcome).cursor) hs

-- all that these lines print
abbrev pub out : Incident → ℕ → List AnsweredLine → Text
out incident cursor [] = []
out incident cursor (h ∷ hs) = (reply incident cursor h.line_outcome).text ++ out incident ((reply incident cursor h.line_outcome).cursor) hs

-- each may have ended as it did
abbrev pub AllMayBe : Incident → ℕ → List AnsweredLine → Type 0
AllMayBe incident cursor [] = ⊤
AllMayBe incident cursor (h ∷ hs) = MayBe incident cursor h.line h.line_outcome × AllMayBe incident ((reply incident cursor h.line_outcome).cursor) hs

-- one line was answered: its whole output was written at `Ok`, and a prefix of it at `Err`
pub record Answers {E : Type 0} (incident : Incident) (cursor cursor' : ℕ) (line : Text) (old new : Option Text) (r : Result Unit E) : Type 0 where
  pub line_outcome : LineOutcome
  pub may_be : MayBe incident cursor line line_outcome
  pub did : MatchResult r
      (λ _. (cursor' ≡ (reply incident cursor line_outcome).cursor) × Appends old new ((reply incident cursor line_outcome).text))
      (λ _. AppendsBeginning old new ((reply incident cursor line_outcome).text))

-- what was read so far: whole lines, which were answered, and the rest
pub record Progress (incident : Incident) (start now : Option Text) (bytes : Text) (cursor : ℕ) (rest : Text) : Type 0 where
  pub heard : List AnsweredLine
  pub cut : Cuts bytes (map (λ h. h.line) heard) rest
  pub may_be : AllMayBe incident 0 heard
  pub position : cursor ≡ after incident 0 heard
  pub written : Appends start now (out incident 0 heard)

-- the writer failed at a line: it has got a prefix of the output up to that line; these bytes
-- follow the line
pub record StopsShort (incident : Incident) (start now : Option Text) (bytes after_line : Text) : Type 0 where
  pub heard : List AnsweredLine
  pub last : AnsweredLine
  pub whole : bytes ≡ flat_map with_feed (map (λ h. h.line) heard) ++ (last.line ++ after_line)
  pub each : All IsOneLine (map (λ h. h.line) heard)
  pub one_line : IsOneLine last.line
  pub may_be : AllMayBe incident 0 (heard ++ last ∷ [])
  pub written : AppendsBeginning start now (out incident 0 (heard ++ last ∷ []))

-- the writer failed at a line that has its line feed
abbrev pub StopsInside : Incident → Option Text → Option Text → Text → Type 0
StopsInside incident start now bytes = (more : Text) × StopsShort incident start now bytes (10 ∷ more)

-- what more bytes do to a session
abbrev pub Takes : {E : Type 0} → Incident → Option Text → ℕ → Line → Option Text → ℕ → Line → Result Unit E → Text → Type 0
Takes incident w c line w' c' line' r bytes = (start : Option Text) (before rest : Text)
    → Progress incident start w before c rest → Holds line rest
    → MatchResult r
    (λ _. (rest' : Text) × Progress incident start w' (before ++ bytes) c' rest' × Holds line' rest')
    (λ _. StopsInside incident start w' (before ++ bytes))
