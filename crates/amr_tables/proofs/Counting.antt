-- Keys that are numbered in the order of a list.
use Rattle.std.proofs.Common.{◌≡◌, add-one, ℕ, suc, ◌+◌, ◌<◌, Bool, false, not, cond, T, List, [], ◌∷◌, ◌++◌, None, Some, length, map, take, get_or, refl, sym, ap, subst, ◌∙◌, arith, is_some}
use Rattle.std.specs.Prelude.{IsPermutation, IsSorted}
use Rattle.std.specs.List.Sorted.{IsStrictlySortedBy}
use Rattle.std.specs.List.{All, IsDistinct, AllByRecursion, list_any, position, position_from}
use Rattle.std.specs.declared.cmp.Ordering.{Ordering}
use Rattle.std.specs.declared.cmp.Ordering.TheVariants.{Equal}
use Rattle.std.specs.Ordering.{eq_by_cmp, nat_cmp, ordering_then}
use Rattle.std.specs.Cmp.{IsTotalOrder, eq_by_cmp_equiv, tied_itself}
use Rattle.std.specs.FinMap.{find, put, is_sorted, IsAntisymmetric}
use Rattle.std.specs.FinMap.Entries.{find-put, is_sorted-put, length-put, find_tied, is_some-find, same_entries}
use Rattle.std.proofs.lemmas.Bool.Decides.{nat_tests}
use Rattle.std.proofs.lemmas.List.{take_more, length-take-le, length-map, get_or-map, length_push}
use Rattle.std.proofs.lemmas.List.Folds.{position_or_len_push}
use Rattle.std.proofs.lemmas.List.Sums.{prefix_len-le-length}
use Rattle.std.proofs.lemmas.Iterator.Adapters.{position_from-zero}
use Rattle.std.proofs.lemmas.Simd.{map-map}
use Rattle.std.proofs.lemmas.List.Elements.{All-cons, All-head, All-tail, All-weaker}
use Rattle.std.proofs.lemmas.List.Sorted.{All-permutation, IsPermutation-map, list_any-IsPermutation}
use Rattle.std.proofs.lemmas.Map.Keys.{IsDistinct-IsPermutation, IsDistinct-head, IsDistinct-tail, apart_from_distinct, sorted_from_all_adjacent}
use Rattle.amr_labels.proofs.Trees.{sorted_entries}
use Rattle.amr_tables.specs.Numbered.{numbered_from}

-- the keys of a list with their numbers, the first with this one
abbrev pub counted : {K : Type 0} → ℕ → List K → List (K × ℕ)
counted n [] = []
counted n (key ∷ keys) = (key, n) ∷ counted (suc n) keys

module _ {K : Type 0} {R : K → K → Ordering} (o : IsTotalOrder R) where
  -- keys that tie find the same
  pub alike : {X : Type 0} (q k : K) (es : List (K × X)) → R q k ≡ Equal → find R q es ≡ find R k es
  alike q k es tie = sym (find_tied R o q k tie es)

  sorted-numbered : (n : ℕ) (ks : List K) → T (is_sorted R (numbered_from R n ks))
  sorted-numbered n [] = tt
  sorted-numbered n (k ∷ ks) = is_sorted-put R o k n _ (sorted-numbered (suc n) ks)

  -- a key of the list has a number
  has-numbered : (q : K) (n : ℕ) (ks : List K) → is_some (find R q (numbered_from R n ks)) ≡ list_any (eq_by_cmp R q) ks
  has-numbered q n [] = refl
  has-numbered q n (k ∷ ks) = let rest = has-numbered q (suc n) ks in grind (arith, find-put R o q k n (numbered_from R (suc n) ks), rest)

  -- which is its index
  find-from : (q : K) (n : ℕ) (ks : List K) → find R q (numbered_from R n ks) ≡ position_from (eq_by_cmp R q) n ks
  find-from q n [] = refl
  find-from q n (k ∷ ks) = let rest = find-from q (suc n) ks in grind (arith, find-put R o q k n (numbered_from R (suc n) ks), rest, add-one n)

  pub find-numbered : (q : K) (ks : List K) → find R q (numbered_from R 0 ks) ≡ position (eq_by_cmp R q) ks
  find-numbered q ks = find-from q 0 ks ∙ sym (position_from-zero (eq_by_cmp R q) ks)

  module _ (E : K → K → Bool) (ties : (x y : K) → E x y ≡ eq_by_cmp R x y) where
    pub index_is : (k : K) (ks : List K) → position (E k) ks ≡ find R k (numbered_from R 0 ks)
    index_is k ks = (λ i. position (λ y. ties k y i) ks) ∙ sym (find-numbered k ks)

    pub new_first : (k : K) (n : ℕ) (ks : List K) → IsDistinct E (k ∷ ks) → find R k (numbered_from R n ks) ≡ None
    new_first k n ks d = none_of n ks (IsDistinct-head E k ks d)
      where
        none_of : (n : ℕ) (ks : List K) → AllByRecursion (λ y. E k y ≡ false) ks → find R k (numbered_from R n ks) ≡ None
        none_of n [] h = refl
        none_of n (x ∷ ks) h = let rest = none_of (suc n) ks h.1 in grind (arith, find-put R o k x n (numbered_from R (suc n) ks), ties k x, rest, h.0)

    length-from : (n : ℕ) (ks : List K) → IsDistinct E ks → length (numbered_from R n ks) ≡ length ks
    length-from n [] d = refl
    length-from n (k ∷ ks) d =
        let rest = length-from (suc n) ks (IsDistinct-tail E k ks d) in
        grind (arith, length-put R o k n (numbered_from R (suc n) ks) (sorted-numbered (suc n) ks), new_first k (suc n) ks d, rest)

    -- a new key goes last, and gets the number of keys before it
    pub push_is : IsAntisymmetric R → (k : K) (ks : List K) → IsDistinct E ks → find R k (numbered_from R 0 ks) ≡ None → numbered_from R 0 (cond (list_any (E k) ks) ks (ks ++ k ∷ [])) ≡ put R k (length (numbered_from R 0 ks)) (numbered_from R 0 ks)
    push_is same k ks d none =
        let es = numbered_from R 0 ks in
        let absent = (λ i. list_any (λ y. ties k y i) ks) ∙ sym (has-numbered k 0 ks) ∙ ap is_some none in
        let fewer = λ (q : K). prefix_len-le-length (λ x. not (eq_by_cmp R q x)) ks in
        rw absent (same_entries R o same _ _ (sorted-numbered 0 (ks ++ k ∷ [])) (is_sorted-put R o k _ _ (sorted-numbered 0 ks)) (λ q.
        grind (arith, nat_tests, find-numbered q (ks ++ k ∷ []), find-numbered q ks, find-put R o q k (length es) es, alike q k es, position_or_len_push (eq_by_cmp R q) ks k, length_push ks k, length-from 0 ks d, none, fewer q)))

    -- each key has the number that it was counted by
    counted_are : (n : ℕ) (ks : List K) → IsDistinct E ks → All (λ e. find R e.0 (numbered_from R n ks) ≡ Some e.1) (counted n ks)
    counted_are n [] d = λ k d lt. absurd (omega (arith, lt))
    counted_are n (k ∷ ks) d =
        let after : List (K × ℕ) = numbered_from R (suc n) ks in
        All-cons (λ e. find R e.0 (numbered_from R n (k ∷ ks)) ≡ Some e.1) (k, n) (counted (suc n) ks) (grind (arith, find-put R o k k n after, tied_itself o k))
        (All-weaker (λ e. find R e.0 after ≡ Some e.1) (λ e. find R e.0 (numbered_from R n (k ∷ ks)) ≡ Some e.1)
        (λ e is. grind (arith, find-put R o e.0 k n after, alike e.0 k after, new_first k (suc n) ks d, is)) (counted (suc n) ks) (counted_are (suc n) ks (IsDistinct-tail E k ks d)))

    keys-counted : (n : ℕ) (ks : List K) → map (λ e. e.0) (counted n ks) ≡ ks
    keys-counted n [] = refl
    keys-counted n (k ∷ ks) = ap (λ rest. k ∷ rest) (keys-counted (suc n) ks)

    same_found : (q : K) (numbers es : List (K × ℕ)) → All (λ e. find R e.0 numbers ≡ Some e.1) es → is_some (find R q es) ≡ is_some (find R q numbers) → find R q es ≡ find R q numbers
    same_found q numbers [] all same = grind (arith, same)
    same_found q numbers (e ∷ es) all same =
        let here = All-head (λ e. find R e.0 numbers ≡ Some e.1) e es all in
        let rest = same_found q numbers es (All-tail (λ e. find R e.0 numbers ≡ Some e.1) e es all) in
        grind (arith, alike q e.0 numbers, here, rest, same)

    -- ---- the keys sorted, with their numbers

    module _ {X : Type 0} (of : X → K × ℕ) where
      abbrev pub number_cmp : X → X → Ordering
      number_cmp x y = ordering_then (R (of x).0 (of y).0) (nat_cmp (of x).1 (of y).1)

      pub strictly : (items : List X) → IsSorted number_cmp items → IsDistinct E (map (λ x. (of x).0) items) → IsStrictlySortedBy R (map (λ x. (of x).0) items)
      unfolding IsStrictlySortedBy
      strictly [] up d = tt
      strictly (x ∷ items) up d =
          let all : List X = x ∷ items in
          let key : X → K = λ x. (of x).0 in
          sorted_from_all_adjacent o (map key all) (key x) (λ k lt.
          let within : k + 1 < length all = rw (sym (length-map all key)) lt in
          grind (arith, get_or-map key all k x (key x), get_or-map key all (k + 1) x (key x), apart_from_distinct E (map key all) k (k + 1) (key x) d, ties (key (get_or all k x)) (key (get_or all (k + 1) x)), up k x, o.antisymm (key (get_or all (k + 1) x)) (key (get_or all k x)), lt, within))

      -- sorted, they are in order
      pub sorted_is : IsAntisymmetric R → (before items : List X) (ks : List K) → IsDistinct E ks → map of before ≡ counted 0 ks → IsPermutation before items → IsSorted number_cmp items → map of items ≡ numbered_from R 0 ks
      sorted_is same before items ks d is_counted permuted up =
          let es : List (K × ℕ) = map of items in
          let keys : List K = map (λ e. e.0) es in
          let moved : IsPermutation (counted 0 ks) es = subst (λ l. IsPermutation l es) is_counted (IsPermutation-map of before items permuted) in
          let all = All-permutation (λ e. find R e.0 (numbered_from R 0 ks) ≡ Some e.1) (counted 0 ks) es moved (counted_are 0 ks d) in
          let keys_moved : IsPermutation ks keys = subst (λ l. IsPermutation l keys) (keys-counted 0 ks) (IsPermutation-map (λ (e : K × ℕ). e.0) (counted 0 ks) es moved) in
          let flips : (x y : K) → E x y ≡ E y x = λ x y. ties x y ∙ (eq_by_cmp_equiv o).symm x y ∙ sym (ties y x) in
          let distinct : IsDistinct E keys = IsDistinct-IsPermutation E flips ks keys keys_moved d in
          let strict : IsStrictlySortedBy R keys = subst (IsStrictlySortedBy R) (sym (map-map (λ (e : K × ℕ). e.0) of items)) (strictly items up (subst (IsDistinct E) (map-map (λ (e : K × ℕ). e.0) of items) distinct)) in
          same_entries R o same es (numbered_from R 0 ks) (sorted_entries R es strict) (sorted-numbered 0 ks) (λ q.
          same_found q (numbered_from R 0 ks) es all (
          is_some-find R q es ∙ sym (list_any-IsPermutation (eq_by_cmp R q) ks keys keys_moved) ∙ sym (has-numbered q 0 ks)))

-- ---- one key more is counted

counted-push : {K : Type 0} (n : ℕ) (ks : List K) (k : K) → counted n (ks ++ k ∷ []) ≡ counted n ks ++ (k, n + length ks) ∷ []
counted-push n [] k = grind arith
counted-push n (x ∷ ks) k = let rest = counted-push (suc n) ks k in grind (arith, rest)

pub counted-more : {K : Type 0} (ks : List K) (i : ℕ) (k : K) → i < length ks → k ≡ get_or ks i k → counted 0 (take (i + 1) ks) ≡ counted 0 (take i ks) ++ (k, i) ∷ []
counted-more ks i k lt is = grind (arith, take_more ks i k lt, counted-push 0 (take i ks) k, length-take-le i ks, lt, is)
