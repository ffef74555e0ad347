-- A list of label sets in order, as a set.
use Rattle.std.proofs.Common.{◌≡◌, ℕ, zero, suc, ◌≤◌, ◌<◌, false, true, T, List, [], ◌∷◌, ◌++◌, Result, Err, map, length, get_or, take, drop, refl, sym, subst, ap, ◌∙◌, arith, add-one}
use Rattle.std.specs.Prelude.{is_ok}
use Rattle.std.specs.declared.cmp.Ordering.TheVariants.{Less, Greater}
use Rattle.std.specs.Ordering.{is_lt}
use Rattle.std.specs.FinMap.{put, is_sorted}
use Rattle.std.specs.FinMap.Entries.{is_sorted-put, is_some-find}
use Rattle.std.specs.List.Sorted.{IsSorted, IsSearchInRange, IsBinarySearchResult}
use Rattle.std.proofs.lemmas.List.Sorted.{searchable_from_sorted}
use Rattle.amr_labels.specs.Map.{insert, from_sorted, entries-from_sorted, entries-insert, get-entries, get-insert, same_entries_map, same_map}
use Rattle.amr_labels.specs.Set.{Set, contains, items}
use Rattle.amr_labels.specs.Labels.{LabelSet, label_set_cmp, label_set_cmp_total, label_set_cmp-IsAntisymmetric}
use Rattle.amr_labels.proofs.Searches.{among}
use Rattle.amr_labels.proofs.Sorted.{first, second, less}
use Rattle.amr_rules.specs.LabelSets.{as_entries}

abbrev pub IsInOrder : List LabelSet → Type 0
IsInOrder xs = T (is_sorted label_set_cmp (as_entries xs))

-- ---- its items

keys_of : (xs : List LabelSet) → map (λ e. e.0) (as_entries xs) ≡ xs
keys_of [] = refl
keys_of (x ∷ xs) = ap (λ l. x ∷ l) (keys_of xs)

pub items_are : (xs : List LabelSet) → IsInOrder xs → items (from_sorted {R = label_set_cmp} (as_entries xs)) ≡ xs
items_are xs h = ap (map (λ e. e.0)) (entries-from_sorted label_set_cmp (as_entries xs) h) ∙ keys_of xs

-- ---- a search in it

before : (xs : List LabelSet) → IsInOrder xs → (k : ℕ) (d : LabelSet) → suc k < length xs → is_lt (label_set_cmp (get_or xs (suc k) d) (get_or xs k d)) ≡ false
before (x ∷ (y ∷ ys)) h zero d high =
    let rises : label_set_cmp x y ≡ Less = less _ (first _ _ (first _ _ h)) in
    grind (arith, label_set_cmp_total.antisymm y x)
before (x ∷ (y ∷ ys)) h (suc k) d high = before (y ∷ ys) (second _ _ h) k d (omega arith)
before xs h k d high = grind arith

up : (xs : List LabelSet) → IsInOrder xs → IsSorted label_set_cmp xs
up xs h k d low high = rw add-one (before xs h k d (omega arith))

pub is_found : (q : LabelSet) (xs : List LabelSet) (r : Result ℕ ℕ) → IsInOrder xs → IsSearchInRange r (length xs) → IsBinarySearchResult (λ k. label_set_cmp k q) xs r
    → is_ok r ≡ contains (from_sorted {R = label_set_cmp} (as_entries xs)) q
is_found q xs r h within at =
    let among = among label_set_cmp_total q xs r (up xs h) within at in
    let listed = is_some-find label_set_cmp q (as_entries xs) in
    grind (arith, among, listed, keys_of xs, get-entries (from_sorted {R = label_set_cmp} (as_entries xs)) q, entries-from_sorted label_set_cmp (as_entries xs) h)

-- ---- one more

-- an item goes between those before it and those after it
put_at : (q : LabelSet) (xs : List LabelSet) (i : ℕ) → i ≤ length xs → ((k : ℕ) (d : LabelSet) → 0 ≤ k → k < i → label_set_cmp (get_or xs k d) q ≡ Less)
    → ((k : ℕ) (d : LabelSet) → i ≤ k → k < length xs → label_set_cmp (get_or xs k d) q ≡ Greater) → put label_set_cmp q tt (as_entries xs) ≡ as_entries (take i xs ++ q ∷ drop i xs)
put_at q (x ∷ xs) zero within before after = grind (arith, label_set_cmp_total.antisymm q x, after zero x (omega arith) (omega arith))
put_at q (x ∷ xs) (suc i) within before after =
    let rest = put_at q xs i (omega arith) (λ k d low high. before (suc k) d (omega arith) (omega arith)) (λ k d low high. after (suc k) d (omega arith) (omega arith)) in
    grind (arith, rest, label_set_cmp_total.antisymm q x, before zero x (omega arith) (omega arith))
put_at q xs i within before after = grind arith

module _ (q : LabelSet) (xs : List LabelSet) (h : IsInOrder xs) (i : ℕ) (within : i ≤ length xs) (at : IsBinarySearchResult (λ k. label_set_cmp k q) xs (Err i)) where
  added : put label_set_cmp q tt (as_entries xs) ≡ as_entries (take i xs ++ q ∷ drop i xs)
  added =
      let parts = at (searchable_from_sorted label_set_cmp_total (λ k. k) xs q (up xs h)) in
      put_at q xs i within parts.0 parts.1

  pub added_in_order : IsInOrder (take i xs ++ q ∷ drop i xs)
  added_in_order = subst (λ es. T (is_sorted label_set_cmp es)) added (is_sorted-put label_set_cmp label_set_cmp_total q tt (as_entries xs) h)

  pub added_is : from_sorted {R = label_set_cmp} (as_entries (take i xs ++ q ∷ drop i xs)) ≡ insert (from_sorted (as_entries xs)) q tt
  added_is =
      same_entries_map _ _ (entries-from_sorted label_set_cmp (as_entries (take i xs ++ q ∷ drop i xs)) added_in_order ∙ sym added
      ∙ ap (put label_set_cmp q tt) (sym (entries-from_sorted label_set_cmp (as_entries xs) h)) ∙ sym (entries-insert label_set_cmp_total (from_sorted (as_entries xs)) q tt))

-- one that is in the set already changes nothing
pub stays : (s : Set label_set_cmp) (q : LabelSet) → contains s q ≡ true → s ≡ insert s q tt
stays s q has = same_map label_set_cmp_total label_set_cmp-IsAntisymmetric s (insert s q tt) (λ k. grind (arith, get-insert label_set_cmp_total s q tt k, label_set_cmp-IsAntisymmetric k q))
