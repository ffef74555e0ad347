-- The answer to a line, from what was done for it and what was written.
use Rattle.std.proofs.Common.{◌≡◌, ℕ, ◌≤◌, length, refl, sym, ap, subst, inl, inr, ⊎_elim, arith, Option, Result, Ok, Err, MatchResult}
use Rattle.std.specs.Io.KnownBytes.{Appends, Keeps}
use Rattle.std.proofs.KnownBytes.{Appends-kept}
use Rattle.amr_labels.specs.Labels.{Text}
use Rattle.amreplay.specs.Lines.CheckedWriter.{AppendsBeginning}
use Rattle.amreplay.specs.CommandLines.Line.{longest}
use Rattle.amreplay.specs.CommandLines.ParsedLine.{LineSays, ReadingTakesMemory, ReadsSuch}
use Rattle.amreplay.specs.CommandLines.Command.{said_of}
use Rattle.amreplay.specs.declared.command_lines.command.ParsedLine.{ParsedLine}
use Rattle.amreplay.specs.Commands.Replies.{Incident, Reply, MayFindNoMemory}
use Rattle.amreplay.specs.Commands.Talk.{Undone, Done, reply, Answers}
use Rattle.amreplay.specs.Commands.Answer.{Answered, HasLineOutcome, answer_text}
use Rattle.amreplay.specs.declared.commands.answer.Answer.{Answer}
use Rattle.amreplay.proofs.LinesLemmas.Parts.{AppendsBeginning-all}

-- memory may run out for what takes memory to parse
reading_may_fail : (i : Incident) (n : ℕ) (parsed : ParsedLine) → ReadingTakesMemory parsed → MayFindNoMemory i n parsed
reading_may_fail i n parsed h = grind arith

-- The line was parsed, and done or undone; or memory ran out for parsing it, and the answer says so.
pub outcome_read : (i : Incident) (n n' : ℕ) (line : Text) (read : ParsedLine) (answer : Answer) → length line ≤ longest → ReadsSuch (LineSays i.version line) (said_of i.version line) read
    → Answered i n n' read answer → HasLineOutcome i n n' line answer
outcome_read i n n' line read answer short (inl says) (inl replied) = record { line_outcome = Done read; may_be = (short, says); replied = replied }
outcome_read i n n' line read answer short (inl says) (inr w) = record { line_outcome = Undone read; may_be = (short, says, w.0); replied = sym w.1 }
outcome_read i n n' line read answer short (inr w) answered =
    let parsed = said_of i.version line in
    ⊎_elim
    (λ replied. record { line_outcome = Undone parsed; may_be = (short, inl refl, reading_may_fail i n parsed w.0); replied = replied })
    (λ u. absurd u.0)
    (subst (λ p. Answered i n n' p answer) w.1 answered)

-- the answer was written, and the writer flushed, whether that failed or not
pub answers_flushed : {E : Type 0} (i : Incident) (n n' : ℕ) (line : Text) (answer : Answer) (old mid now : Option Text) (flushed : Result Unit E)
    → HasLineOutcome i n n' line answer → Appends old mid (answer_text n' answer) → Keeps mid now → Answers i n n' line old now flushed
answers_flushed i n n' line answer old mid now flushed f wrote kept =
    let text = (reply i n f.line_outcome).text in
    let same : answer_text n' answer ≡ text = ap (λ (x : Reply). x.text) (sym f.replied) in
    let all : Appends old now text = Appends-kept old mid now text (subst (Appends old mid) same wrote) kept in
    record {
      line_outcome = f.line_outcome;
      may_be = f.may_be;
      did = elim flushed as (λ r. MatchResult r (λ _. (n' ≡ (reply i n f.line_outcome).cursor) × Appends old now text) (λ _. AppendsBeginning old now text)) [
        | Ok x ↦ (ap (λ (x : Reply). x.cursor) (sym f.replied), all)
        | Err e ↦ AppendsBeginning-all old now text all
      ];
    }
