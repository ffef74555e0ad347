-- What is written for a line, and what was done for it.
use Rattle.std.specs.Prelude.{◌≡◌, ℕ, ◌<◌, [], ◌⊎◌, string_bytes}
use Rattle.amr_labels.specs.Labels.{Text}
use Rattle.amreplay.specs.declared.lines.word.Word.{Word}
use Rattle.amreplay.specs.declared.lines.word.Word.TheVariants as word
use Rattle.amreplay.specs.Lines.LastLines.{moves_line, cursor_line, position_line, refused_line}
use Rattle.amreplay.specs.declared.command_lines.command.ParsedLine.{ParsedLine}
use Rattle.amreplay.specs.CommandLines.ParsedLine.{word_of}
use Rattle.amr_replay.specs.Session.{View}
use Rattle.amreplay.specs.Commands.Replies.{Incident, incident_of, Reply, reply_of, reply_to_move, MayFindNoMemory}
use Rattle.amreplay.specs.Commands.Talk.{LineOutcome, reply, MayBe}
use Rattle.amreplay.specs.declared.commands.answer.Refusal.TheVariants.{Memory}
use Rattle.amreplay.specs.Commands.Refusals.{refusal_number}
use Rattle.amreplay.specs.declared.commands.answer.Answer.{Answer}
use Rattle.amreplay.specs.declared.commands.answer.Answer.TheVariants.{Nothing, Built, Listed, WentBack, SoughtBack, Position, Refused}

-- what is written, with the cursor there
abbrev pub answer_text : ℕ → Answer → Text
answer_text cursor Nothing = []
answer_text cursor (Built text) = string_bytes text
answer_text cursor (Listed lines) = lines.items
answer_text cursor WentBack = cursor_line word.Back cursor
answer_text cursor (SoughtBack word) = moves_line word cursor 0
answer_text cursor (Position at events now) = position_line at events now
answer_text cursor (Refused word refusal) = refused_line word cursor (refusal_number refusal)

-- the command leaves this: the cursor, and what is written
abbrev pub left : ℕ → Answer → Reply
left cursor answer = record { cursor = cursor; text = answer_text cursor answer }

-- the command was done, or memory ran out and it was undone
abbrev pub Answered : Incident → ℕ → ℕ → ParsedLine → Answer → Type 0
Answered incident cursor cursor' parsed answer =
    (reply_of incident cursor parsed ≡ left cursor' answer)
    ⊎ (MayFindNoMemory incident cursor parsed × (left cursor' answer ≡ left cursor (Refused (word_of parsed) Memory)))

-- the same for a session before and after
abbrev pub AnsweredBy : View → View → ParsedLine → Answer → Type 0
AnsweredBy before after parsed answer = Answered (incident_of before) before.cursor after.cursor parsed answer

-- the line ended in one of these ways
pub record HasLineOutcome (incident : Incident) (cursor cursor' : ℕ) (line : Text) (answer : Answer) : Type 0 where
  pub line_outcome : LineOutcome
  pub may_be : MayBe incident cursor line line_outcome
  pub replied : reply incident cursor line_outcome ≡ left cursor' answer

-- the cursor was moved there and this is written, or memory ran out on the way forward and the
-- command was undone
abbrev pub Moves : Incident → ℕ → Word → ℕ → ℕ → Answer → Type 0
Moves incident from word to cursor' answer =
    (reply_to_move incident from word to ≡ left cursor' answer)
    ⊎ ((from < to) × (left cursor' answer ≡ left from (Refused word Memory)))
