-- The lines of bytes, and of more bytes after them.
use Rattle.std.proofs.Common.{◌≡◌, ℕ, ◌+◌, ◌<◌, ◌==◌, List, [], ◌∷◌, ◌++◌, length, take, drop, refl, ap, ◌∙◌, arith, append-nil}
use Rattle.std.proofs.lemmas.Bool.{false_from_ne_true}
use Rattle.std.proofs.lemmas.Grind.{common_steps, get_or_default_zero}
use Rattle.std.proofs.lemmas.List.Splits.{slice_split_none, length-slice_split}
use Rattle.std.proofs.lemmas.Bool.Decides.{nat_tests}
use Rattle.memchr.specs.Find.{Passes, is_byte, Nowhere, NoneBefore}
use Rattle.amr_events.specs.Scripts.{lines_of}
use Rattle.amr_events.specs.ScriptReaders.{IsOneLine}
use Rattle.amr_events.proofs.LineSteps.{Line}

given : (lines : List Line) → 0 < length lines → (first : Line) × (others : List Line) × (lines ≡ first ∷ others)
given [] some = absurd (omega arith)
given (first ∷ others) some = (first, others, refl)

-- the first line of some bytes, and the others
pub lines_in : (bytes : List ℕ) → (first : Line) × (others : List Line) × (lines_of bytes ≡ first ∷ others)
lines_in bytes = given (lines_of bytes) (omega (arith, length-slice_split (λ b. b == 10) bytes))

-- ---- the last line goes on

-- the first of more lines goes onto the last of these
abbrev joined : List Line → List Line → List Line
joined [] more = more
joined (line ∷ next ∷ lines) more = line ∷ joined (next ∷ lines) more
joined (line ∷ []) [] = line ∷ []
joined (line ∷ []) (first ∷ others) = (line ++ first) ∷ others

joined_last : (before : List Line) (last first : Line) (others : List Line) → joined (before ++ last ∷ []) (first ∷ others) ≡ before ++ (last ++ first) ∷ others
joined_last [] last first others = refl
joined_last (line ∷ []) last first others = refl
joined_last (line ∷ next ∷ before) last first others = ap (λ lines. line ∷ lines) (joined_last (next ∷ before) last first others)

joined_lines : (bytes more : List ℕ) → lines_of (bytes ++ more) ≡ joined (lines_of bytes) (lines_of more)
joined_lines [] more = grind (arith, lines_in more)
joined_lines (b ∷ bytes) more = grind (arith, joined_lines bytes more, lines_in more, lines_in bytes)

pub join : (more : List ℕ) (first : Line) (others : List Line) → lines_of more ≡ first ∷ others
    → (bytes : List ℕ) (before : List Line) (last : Line) → lines_of bytes ≡ before ++ last ∷ [] → lines_of (bytes ++ more) ≡ before ++ (last ++ first) ∷ others
join more first others they_are bytes before last are = rw (joined_lines bytes more, are, they_are) (joined_last before last first others)

-- a line feed ends it
pub ended_line : (part rest : List ℕ) → IsOneLine part → lines_of (part ++ 10 ∷ rest) ≡ part ∷ lines_of rest
ended_line part rest one = join (10 ∷ rest) [] (lines_of rest) refl part [] part one ∙ ap (λ l. l ∷ lines_of rest) (append-nil part)

-- ---- up to a line feed

-- bytes without a line feed
pub no_feed : (left : List ℕ) → Nowhere (Passes (is_byte 10) left) 0 (length left) → IsOneLine left
no_feed left none = slice_split_none (λ b. b == 10) left (λ k d low. rw (get_or_default_zero left k d low) (false_from_ne_true _ (none k (omega arith) low)))

-- bytes with a first line feed
pub at_feed : (left : List ℕ) (k : ℕ) → NoneBefore (Passes (is_byte 10) left) 0 (length left) k → Passes (is_byte 10) left k
    → IsOneLine (take k left) × (left ≡ take k left ++ 10 ∷ [] ++ drop (k + 1) left)
at_feed left k first is =
    let high = first.high in (
      slice_split_none (λ b. b == 10) (take k left) (λ n d low. false_from_ne_true _ (λ feed. first.before n (omega arith) (grind (arith, common_steps)) (grind (arith, common_steps)))),
      grind (arith, common_steps, nat_tests),
    )
