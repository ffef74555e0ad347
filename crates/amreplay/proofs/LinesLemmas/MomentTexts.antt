-- A moment's text needs no escape.
use Rattle.std.proofs.Common.{◌≡◌, ℕ, ◌%◌, ◌≤◌, Bool, true, false, eqb, cond, [], ◌∷◌, ◌++◌, arith}
use Rattle.json.specs.Print.{escape, escape_byte}
use Rattle.json.proofs.Printed.Strings.{escape_byte_plain}
use Rattle.serde_json.specs.Written.{compact_text}
use Rattle.amr_time.specs.Time.{Moment, second}
use Rattle.amr_time.specs.MomentText.{digit, nine_digits, fraction_text, moment_text}
use Rattle.amreplay.specs.Lines.Printed.{moment_data}

-- a digit, or a byte from the dash to Z
plain : (b : ℕ) → 45 ≤ b → b ≤ 90 → escape_byte b ≡ b ∷ []
plain b low high = escape_byte_plain b (λ e. omega arith) (λ e. omega arith) (omega arith)

of_digit : (n : ℕ) → escape_byte (digit n) ≡ digit n ∷ []
of_digit n = plain (digit n) (omega arith) (omega arith)

tail_plain : (n : ℕ) (zero : Bool) → escape (fraction_text (cond zero [] (nine_digits n)) ++ 90 ∷ []) ≡ fraction_text (cond zero [] (nine_digits n)) ++ 90 ∷ []
tail_plain n true = simp (plain 90 (omega arith) (omega arith))
tail_plain n false = simp (of_digit, plain 46 (omega arith) (omega arith), plain 90 (omega arith) (omega arith))

pub moment_json : (m : Moment) → compact_text (moment_data m) ≡ 34 ∷ (moment_text m ++ 34 ∷ [])
unfolding moment_data
moment_json m =
    simp (of_digit, plain 45 (omega arith) (omega arith), plain 58 (omega arith) (omega arith), plain 84 (omega arith) (omega arith), tail_plain (m % second) (eqb (m % second) 0))
