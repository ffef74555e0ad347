-- What a binary search by key finds among entries in strictly ascending order.
use Rattle.std.proofs.Common.{◌≡◌, ◌≢◌, ℕ, zero, suc, ◌<◌, true, false, T, IsSorted, List, [], ◌∷◌, Some, None, Result, Ok, Err, MatchResult, length, get_or, refl, ap, ◌∙◌, inl, inr, arith, Ordering, Less, Equal, Greater}
use Rattle.std.specs.Cmp.{IsTotalOrder}
use Rattle.std.specs.FinMap.{find, is_sorted}
use Rattle.std.specs.FinMap.Entries.{find_tied}
use Rattle.std.specs.List.Sorted.{IsSearchInRange, IsBinarySearchResult}
use Rattle.std.specs.List.{list_any}
use Rattle.std.specs.Ordering.{eq_by_cmp, is_eq, ordering_reverse}
use Rattle.std.proofs.lemmas.Bool.Decides.{leb_tells}
use Rattle.std.proofs.lemmas.List.Elements.{All-get_or, All-from_recursion}
use Rattle.std.proofs.lemmas.List.Folds.{list_any_at, list_any_none}
use Rattle.std.proofs.lemmas.List.Sorted.{searchable_from_sorted}
use Rattle.amr_labels.proofs.Ascending.{neighbours_ascend}
use Rattle.amr_labels.proofs.Pairs.{own_values}

module _ {K X : Type 0} {R : K → K → Ordering} (o : IsTotalOrder R) where
  found_at : (q : K) (es : List (K × X)) (i : ℕ) (d : K × X) → T (is_sorted R es) → i < length es → R (get_or es i d).0 q ≡ Equal → find R q es ≡ Some (get_or es i d).1
  found_at q es i d h within e = find_tied R o (get_or es i d).0 q e es ∙ All-get_or (λ (f : K × X). find R f.0 es ≡ Some f.1) es i d within (All-from_recursion (λ (f : K × X). find R f.0 es ≡ Some f.1) es (own_values o es h))

  none_found : (q : K) (es : List (K × X)) → ((i : ℕ) (d : K × X) → i < length es → R (get_or es i d).0 q ≢ Equal) → find R q es ≡ None
  none_found q [] h = refl
  none_found q (e ∷ es) h =
      let rest : find R q es ≡ None = none_found q es (λ i d within. h (suc i) d (omega arith)) in
      grind (arith, rest, h zero e (omega arith), o.antisymm e.0 q)

  -- the result of the search
  pub searched : (q : K) (es : List (K × X)) (r : Result ℕ ℕ) → T (is_sorted R es) → IsSearchInRange r (length es) → IsBinarySearchResult (λ e. R e.0 q) es r
      → MatchResult r (λ i. (d : K × X) → find R q es ≡ Some (get_or es i d).1) (λ i. find R q es ≡ None)
  searched q es (Ok i) h within result = λ d. found_at q es i d h within (result d)
  searched q es (Err i) h within result =
      let parts = result (searchable_from_sorted o (λ (e : K × X). e.0) es q (λ k d low high. grind (arith, o.antisymm, neighbours_ascend R es k d h))) in
      none_found q es (λ k d lt e. elim (leb_tells i k) [
        | inl p ↦ cc (parts.1 k d p.1 lt)
        | inr p ↦ cc (parts.0 k d (omega arith) p.1)
      ])

-- a search among keys in ascending order, some of which may be equal, tells whether a key is among them
module _ {K : Type 0} {R : K → K → Ordering} (o : IsTotalOrder R) where
  told : (q x : K) (r : Ordering) → R x q ≡ r → eq_by_cmp R q x ≡ is_eq (ordering_reverse r)
  told q x r e = ap is_eq (o.antisymm q x ∙ ap ordering_reverse e)

  pub among : (q : K) (ks : List K) (r : Result ℕ ℕ) → IsSorted R ks → IsSearchInRange r (length ks) → IsBinarySearchResult (λ k. R k q) ks r
      → MatchResult r (λ i. list_any (eq_by_cmp R q) ks ≡ true) (λ i. list_any (eq_by_cmp R q) ks ≡ false)
  among q [] (Ok i) up within result = absurd (omega arith)
  among q (k ∷ ks) (Ok i) up within result = list_any_at (eq_by_cmp R q) (k ∷ ks) i k within (told q _ Equal (result k))
  among q ks (Err i) up within result =
      let parts = result (searchable_from_sorted o (λ k. k) ks q up) in
      list_any_none (eq_by_cmp R q) ks (λ k d lt. elim (leb_tells i k) [
        | inl p ↦ told q _ Greater (parts.1 k d p.1 lt)
        | inr p ↦ told q _ Less (parts.0 k d (omega arith) p.1)
      ])
