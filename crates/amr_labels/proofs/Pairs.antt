-- Maps made of pairs; if a key is repeated, the last value counts.
use Rattle.std.proofs.Common.{arith, ◌≡◌, ℕ, ◌+◌, ◌<◌, Bool, cond, T, List, [], ◌∷◌, ◌++◌, Option, Some, length, take, reverse, get_or, refl, sym, ap, subst, ◌∙◌, true, unwrap_or, Ordering}
use Rattle.std.specs.Cmp.{IsTotalOrder, tied_itself}
use Rattle.std.specs.FinMap.{find, is_sorted}
use Rattle.std.specs.FinMap.Entries.{below_all, where_key, is_sorted-where_key}
use Rattle.std.specs.List.{AllByRecursion, filter, list_all}
use Rattle.std.specs.Ordering.{is_eq, ordering_reverse}
use Rattle.std.proofs.lemmas.List.{take_more, reverse-append}
use Rattle.amr_labels.specs.Map.{Map, entries, get, from_entries, from_sorted, insert, retain_keys, entries-from_sorted, entries-retain_keys, entries-sorted, get-entries, same_entries_map}
use Rattle.amr_labels.proofs.Sorted.{first, second, less}

-- one more pair is inserted into the map of the pairs before
pub last_counts : {K X : Type 0} (R : K → K → Ordering) (pairs : List (K × X)) (i : ℕ) (pair : K × X) → i < length pairs → pair ≡ get_or pairs i pair
    → from_entries {R = R} (reverse (take (i + 1) pairs)) ≡ insert (from_entries (reverse (take i pairs))) pair.0 pair.1
last_counts {K} {X} R pairs i pair within is =
    ap (λ (ps : List (K × X)). from_entries {R = R} (reverse ps)) (take_more pairs i pair within ∙ ap (λ (p : K × X). take i pairs ++ p ∷ []) (sym is))
    ∙ ap (from_entries {R = R}) (reverse-append (take i pairs) (pair ∷ []))

-- tests that agree on each item keep the same items
filter_alike : {X : Type 0} (p q : X → Bool) (xs : List X) → AllByRecursion (λ x. p x ≡ q x) xs → filter p xs ≡ filter q xs
filter_alike p q [] h = refl
filter_alike p q (x ∷ xs) h = λ i. cond (h.0 i) (x ∷ filter_alike p q xs h.1 i) (filter_alike p q xs h.1 i)

-- a test that each item passes keeps all
filter_all : {X : Type 0} (p : X → Bool) (xs : List X) → list_all p xs ≡ true → filter p xs ≡ xs
filter_all p [] h = refl
filter_all p (x ∷ xs) h = grind (arith, filter_all p xs)

module _ {K X : Type 0} {R : K → K → Ordering} (o : IsTotalOrder R) where
  -- what is found among greater entries doesn't change if a lesser one is put in front
  later : (e : K × X) (es fs : List (K × X)) → T (below_all R e.0 fs) → AllByRecursion (λ f. find R f.0 es ≡ Some f.1) fs → AllByRecursion (λ f. find R f.0 (e ∷ es) ≡ Some f.1) fs
  later e es [] h found = tt
  later e es (f ∷ fs) h found = (
    ap (λ r. cond (is_eq r) (Some e.1) (find R f.0 es)) (o.antisymm f.0 e.0 ∙ ap ordering_reverse (less _ (first _ _ h))) ∙ found.0,
    later e es fs (second _ _ h) found.1,
  )

  -- each entry of a sorted list is found by its key
  pub own_values : (es : List (K × X)) → T (is_sorted R es) → AllByRecursion (λ e. find R e.0 es ≡ Some e.1) es
  own_values [] h = tt
  own_values (e ∷ es) h = (grind (arith, tied_itself o e.0), later e es es (first _ _ h) (own_values es (second _ _ h)))

  tested : (test : X → Bool) (none : X) (es fs : List (K × X)) → AllByRecursion (λ f. find R f.0 es ≡ Some f.1) fs
      → AllByRecursion (λ f. test f.1 ≡ test (unwrap_or (find R f.0 es) none)) fs
  tested test none es [] h = tt
  tested test none es (f ∷ fs) h = (ap (λ found. test (unwrap_or found none)) (sym h.0), tested test none es fs h.1)

  -- a test of the values, as a test of the keys
  pub filter_by_values : (m : Map R X) (test : X → Bool) (none : X) → filter (λ e. test e.1) (entries m) ≡ where_key R (λ k. test (unwrap_or (get m k) none)) (entries m)
  filter_by_values m test none =
      filter_alike _ _ (entries m) (tested test none (entries m) (entries m) (own_values (entries m) (entries-sorted m)))
      ∙ ap (λ (look : K → Option X). where_key R (λ k. test (unwrap_or (look k) none)) (entries m)) (λ i k. sym (get-entries m k) i)

  pub sorted_where_key : (m : Map R X) (test : K → Bool) (es : List (K × X)) → es ≡ where_key R test (entries m) → T (is_sorted R es)
  sorted_where_key m test es e = subst (λ (fs : List (K × X)). T (is_sorted R fs)) (sym e) (is_sorted-where_key R test (entries m) (entries-sorted m))

  -- the map of the entries that are kept
  pub retained : (m : Map R X) (test : K → Bool) (es : List (K × X)) → es ≡ where_key R test (entries m) → from_sorted es ≡ retain_keys m test
  retained m test es e =
      ap (from_sorted {R = R}) e
      ∙ same_entries_map _ _ (entries-from_sorted R _ (is_sorted-where_key R test (entries m) (entries-sorted m)) ∙ sym (entries-retain_keys m test))

  -- all entries are kept if all values pass the test
  pub all_retained : (m : Map R X) (test : X → Bool) (none : X) → list_all (λ e. test e.1) (entries m) ≡ true → retain_keys m (λ k. test (unwrap_or (get m k) none)) ≡ m
  all_retained m test none all =
      same_entries_map _ _ (entries-retain_keys m _ ∙ sym (filter_by_values m test none) ∙ filter_all _ (entries m) all)
