-- The lines that are written part by part are those of their values.
use Rattle.std.proofs.Common.{◌≡◌, ◌++◌, ℕ, codes, decimal, refl, sym, ap, ◌∙◌, append_assoc}
use Rattle.std.specs.Fmt.{digits}
use Rattle.json.specs.Print.{escape}
use Rattle.serde_json.specs.Written.{compact_text}
use Rattle.serde_json.proofs.OnLiterals.{serde_json_on_literals}
use Rattle.amreplay.specs.Lines.Printed.{moment_data}
use Rattle.amr_time.specs.Time.{Moment}
use Rattle.amr_time.specs.MomentText.{moment_text}
use Rattle.amreplay.specs.Lines.LastLines.{word_text, moves_line, cursor_line, position_line, refused_line}
use Rattle.amreplay.proofs.LinesLemmas.MomentTexts.{moment_json}
use Rattle.amreplay.proofs.LinesLemmas.ObjectTexts.{object_texts}
use Rattle.amreplay.specs.declared.lines.word.Word.{Word}
use Rattle.amreplay.specs.declared.lines.word.Word.TheVariants.{Step}

-- no word needs an escape
escape_word : (word : Word) → escape (word_text word) ≡ word_text word
unfolding serde_json_on_literals
escape_word Step = refl
escape_word _ = refl

pub cursor_line-parts : (word : Word) (cursor : ℕ)
    → codes "{\"command\":\"" ++ (word_text word ++ (codes "\",\"cursor\":" ++ (decimal cursor ++ codes "}\n"))) ≡ cursor_line word cursor
unfolding serde_json_on_literals
cursor_line-parts word cursor = simp (append_assoc, escape_word)

pub moves_line-parts : (word : Word) (cursor moves : ℕ)
    → codes "{\"command\":\"" ++ (word_text word ++ (codes "\",\"cursor\":" ++ (decimal cursor ++ (codes ",\"moves\":" ++ (decimal moves ++ codes "}\n"))))) ≡ moves_line word cursor moves
unfolding serde_json_on_literals
moves_line-parts word cursor moves = simp (append_assoc, escape_word)

pub moves_line-none : (word : Word) (cursor : ℕ)
    → codes "{\"command\":\"" ++ (word_text word ++ (codes "\",\"cursor\":" ++ (decimal cursor ++ codes ",\"moves\":0}\n"))) ≡ moves_line word cursor 0
unfolding digits
moves_line-none word cursor = moves_line-parts word cursor 0

pub position_line-parts : (cursor events : ℕ) (now : Moment)
    → codes "{\"command\":\"cursor\",\"cursor\":" ++ (decimal cursor ++ (codes ",\"events\":" ++ (decimal events ++ (codes ",\"now\":\"" ++ (moment_text now ++ codes "\"}\n"))))) ≡ position_line cursor events now
unfolding object_texts
position_line-parts cursor events now =
    let clock : codes ",\"now\":\"" ++ (moment_text now ++ codes "\"}\n") ≡ codes ",\"now\":" ++ (compact_text (moment_data now) ++ codes "}\n") =
    rw (moment_json now) (sym (ap (λ l. codes ",\"now\":\"" ++ l) (append_assoc (moment_text now) (codes "\"") (codes "}\n")))) in
    ap (λ l. codes "{\"command\":\"cursor\",\"cursor\":" ++ (decimal cursor ++ (codes ",\"events\":" ++ (decimal events ++ l)))) clock ∙ simp append_assoc

pub refused_line-parts : (word : Word) (cursor reason : ℕ)
    → codes "{\"command\":\"" ++ (word_text word ++ (codes "\",\"cursor\":" ++ (decimal cursor ++ (codes ",\"refused\":" ++ (decimal reason ++ codes "}\n"))))) ≡ refused_line word cursor reason
unfolding serde_json_on_literals
refused_line-parts word cursor reason = simp (append_assoc, escape_word)
