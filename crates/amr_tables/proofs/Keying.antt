-- The key with a number, among keys that are numbered in the order of a list.
use Rattle.std.proofs.Common.{◌≡◌, ℕ, suc, ◌-◌, Bool, List, [], ◌∷◌, Some, None, refl, ◌∙◌, arith, nat_lt, slice_get}
use Rattle.std.specs.Prelude.{◌==◌, if◌then◌else◌}
use Rattle.std.specs.declared.cmp.Ordering.{Ordering}
use Rattle.std.specs.Ordering.{eq_by_cmp}
use Rattle.std.specs.Cmp.{IsTotalOrder}
use Rattle.std.specs.Cmp.Lexicographic.{options_total}
use Rattle.std.proofs.lemmas.Cmp.{on_total}
use Rattle.std.specs.FinMap.{find, put}
use Rattle.std.specs.List.{IsDistinct}
use Rattle.std.proofs.lemmas.Bool.Decides.{nat_tests}
use Rattle.std.proofs.lemmas.Map.Keys.{IsDistinct-tail}
use Rattle.amr_tables.specs.Numbered.{Numbered, numbered_from, key_with, key_at, rank_of}
use Rattle.amr_tables.proofs.Counting.{new_first}

-- numbers are ordered by their keys
pub rank_of-total : {K V : Type 0} {R : K → K → Ordering} → IsTotalOrder R → (t : Numbered K V) → IsTotalOrder (rank_of R t)
rank_of-total o t = on_total (key_at t) (options_total o)

module _ {K : Type 0} (R : K → K → Ordering) where
  -- a new key is found by its number, and each other key by its own
  key_with-put : (k : K) (n m : ℕ) (es : List (K × ℕ)) → find R k es ≡ None → key_with es n ≡ None → key_with (put R k n es) m ≡ (if n == m then Some k else key_with es m)
  key_with-put k n m [] none free = refl
  key_with-put k n m (e ∷ es) none free = let rest = key_with-put k n m es in grind (arith, nat_tests, rest, none, free)

  module _ (o : IsTotalOrder R) (E : K → K → Bool) (ties : (x y : K) → E x y ≡ eq_by_cmp R x y) where
    -- the key with a number is the one at that index of the list
    from : (n m : ℕ) (ks : List K) → IsDistinct E ks → key_with (numbered_from R n ks) m ≡ (if nat_lt m n then None else slice_get ks (m - n))
    from n m [] d = grind arith
    from n m (k ∷ ks) d =
        let rest = λ (x : ℕ). from (suc n) x ks (IsDistinct-tail E k ks d) in
        grind (arith, nat_tests, key_with-put k n m (numbered_from R (suc n) ks), new_first o E ties k (suc n) ks d, rest n, rest m)

    pub key_with-numbered : (m : ℕ) (ks : List K) → IsDistinct E ks → key_with (numbered_from R 0 ks) m ≡ slice_get ks m
    key_with-numbered m ks d = from 0 m ks d ∙ grind (arith, nat_tests)
