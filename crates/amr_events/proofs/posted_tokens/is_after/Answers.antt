use Rattle.std.proofs.Common.{◌≡◌, ℕ, zero, suc, ◌-◌, List, [], ◌∷◌, length, Some, slice_get, Less, refl, arith, rules}
use Rattle.std.specs.Borrow.{Bor}
use Rattle.amr_labels.specs.Labels.{Text, text_cmp}
use Rattle.amr_events.specs.Tokens.{IsAfter}
use Rattle.amr_labels.specs.Lent.{lent_texts}
use Rattle.amr_events.proofs.posted_tokens.is_after.Goals as goal

after_last : (pairs : List (Bor Text × Bor Text)) (last : Bor Text × Bor Text) (name : Text) (n : ℕ) → length pairs - 1 ≡ n → slice_get pairs n ≡ Some last → text_cmp last.0.now name ≡ Less → IsAfter name (lent_texts pairs)
after_last [] last name n count is less = tt
after_last (pair ∷ []) last name n count is less = grind arith
after_last (pair ∷ next ∷ pairs) last name zero count is less = grind arith
after_last (pair ∷ next ∷ pairs) last name (suc n) count is less = after_last (next ∷ pairs) last name n (omega (arith, count)) is less

pub returns-in-Some : goal.returns-in-Some
returns-in-Some c is = after_last c.args.texts.now c.in-Some.field-0.now c.args.name.now _ refl (search rules) (search rules)
