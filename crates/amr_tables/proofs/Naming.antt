-- The key with a number.
use Rattle.std.proofs.Common.{◌≡◌, ℕ, List, [], ◌∷◌, Some, sym, ap, ◌∙◌, arith}
use Rattle.std.specs.Prelude.{option_and_then}
use Rattle.std.specs.List.{AllByRecursion}
use Rattle.std.specs.declared.cmp.Ordering.{Ordering}
use Rattle.std.specs.Cmp.{IsTotalOrder}
use Rattle.std.specs.FinMap.{find, IsAntisymmetric}
use Rattle.std.proofs.lemmas.Bool.Decides.{nat_tests}
use Rattle.std.proofs.lemmas.Option.{option_and_then_some}
use Rattle.amr_labels.specs.Map.{get}
use Rattle.amr_labels.proofs.Pairs.{own_values}
use Rattle.amr_tables.specs.Places.{value_at}
use Rattle.amr_tables.specs.Numbered.{Numbered, IsNumbering, map_of, number_of, key_with, key_at}
use Rattle.amr_tables.proofs.Numbering.{get-shown}

module _ {K V : Type 0} {R : K → K → Ordering} (o : IsTotalOrder R) (exact : IsAntisymmetric R) where
  -- no other key has its number
  pub one_key : (t : Numbered K V) → IsNumbering R t → (a b : K) (n : ℕ) → number_of R t a ≡ Some n → number_of R t b ≡ Some n → a ≡ b
  one_key t is a b n e f = let tied = is.apart b a n f e in exact a b (grind (arith, tied))

  -- the key of a number is the one that has it
  pub key_at_number : (t : Numbered K V) → IsNumbering R t → (k : K) (n : ℕ) → number_of R t k ≡ Some n → key_at t n ≡ Some k
  key_at_number t is k n at = by t.numbers (own_values o t.numbers is.sorted) at
    where
      by : (es : List (K × ℕ)) → AllByRecursion (λ e. number_of R t e.0 ≡ Some e.1) es → find R k es ≡ Some n → key_with es n ≡ Some k
      by [] found h = cc
      by (e ∷ es) found h = let rest = by es found.1 in grind (arith, nat_tests, rest, found.0, one_key t is e.0 k n, at, h)

  -- a key's value is that at its number
  pub value_at_number : (t : Numbered K V) → IsNumbering R t → (key : K) (n : ℕ) → number_of R t key ≡ Some n → get (map_of R t) key ≡ value_at t.cells n
  value_at_number t is key n at = get-shown R o t key is ∙ ap (option_and_then (value_at t.cells)) at

  -- a key with a value has a number
  pub number_of_value : (t : Numbered K V) → IsNumbering R t → (key : K) (value : V) → get (map_of R t) key ≡ Some value → (n : ℕ) × (number_of R t key ≡ Some n)
  number_of_value t is key value at = option_and_then_some (value_at t.cells) (number_of R t key) value (sym (get-shown R o t key is) ∙ at) (λ n found _. (n, found))
