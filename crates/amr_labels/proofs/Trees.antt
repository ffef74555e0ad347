-- An ordered tree of std, as the finite map of its entries.
use Rattle.std.proofs.Common.{arith, ◌≡◌, not, cond, List, [], ◌∷◌, Some, map, refl, sym, ap, subst, ◌∙◌, T, Ordering, Less, Equal}
use Rattle.std.specs.Ordering.{is_lt, is_eq, eq_by_cmp}
use Rattle.std.specs.FinMap.{find, put, is_sorted}
use Rattle.std.specs.FinMap.Entries.{below_all, where_key}
use Rattle.std.specs.Map.{lookup}
use Rattle.std.specs.List.{AllByRecursion}
use Rattle.std.specs.List.Sorted.{IsStrictlySortedBy}
use Rattle.std.specs.Cmp.{IsTotalOrder}
use Rattle.std.specs.BTreeMap as tree
use Rattle.std.specs.BTreeMap.{BTreeMap, insert_entry}
use Rattle.std.proofs.lemmas.Map.Keys.{sorted_head, sorted_tail}
use Rattle.amr_labels.specs.Map.{from_sorted, entries, get, insert, empty, entries-from_sorted, entries-insert, get-entries, same_entries_map}
use Rattle.amr_labels.proofs.Sorted.{both, first, second, less}

module _ {K X : Type 0} (R : K → K → Ordering) where
  below : (k : K) (es : List (K × X)) → AllByRecursion (λ y. R k y ≡ Less) (map (λ e. e.0) es) → T (below_all R k es)
  below k [] h = tt
  below k (e ∷ es) h = both _ _ (subst (λ o. T (is_lt o)) (sym h.0) tt) (below k es h.1)

  pub sorted_entries : (es : List (K × X)) → IsStrictlySortedBy R (map (λ e. e.0) es) → T (is_sorted R es)
  sorted_entries [] h = tt
  sorted_entries (e ∷ es) h =
      both _ _ (below e.0 es (sorted_head R e.0 (map (λ e. e.0) es) h)) (sorted_entries es (sorted_tail R e.0 (map (λ e. e.0) es) h))

  -- std's insertion is the finite map's
  pub put_is : (es : List (K × X)) (k : K) (v : X) → insert_entry R es k v ≡ put R k v es
  put_is [] k v = refl
  put_is (e ∷ es) k v = grind (arith, put_is es k v)

  pub lookup_is : (es : List (K × X)) (q : K) → find R q es ≡ lookup (tree.is_at (R q)) es
  lookup_is [] q = refl
  lookup_is (e ∷ es) q = ap (cond (eq_by_cmp R q e.0) (Some e.1)) (lookup_is es q)

  pub entries_of_tree : (m : BTreeMap K X) → tree.IsOrdered R m → entries (from_sorted {R = R} m.entries) ≡ m.entries
  entries_of_tree m h = entries-from_sorted R m.entries (sorted_entries m.entries h)

  pub get_of_tree : (m : BTreeMap K X) (q : K) → tree.IsOrdered R m → get (from_sorted {R = R} m.entries) q ≡ tree.get R m q
  get_of_tree m q h = get-entries (from_sorted m.entries) q ∙ ap (find R q) (entries_of_tree m h) ∙ lookup_is m.entries q

  pub empty_of_entries : (es : List (K × X)) → es ≡ [] → from_sorted {R = R} es ≡ empty
  unfolding empty entries
  empty_of_entries es e = ap (from_sorted {R = R}) e ∙ same_entries_map _ _ (entries-from_sorted R [] tt)

  pub empty_of_tree : (m : BTreeMap K X) → m.entries ≡ [] → from_sorted {R = R} m.entries ≡ empty
  empty_of_tree m e = empty_of_entries m.entries e

module _ {K X : Type 0} {R : K → K → Ordering} (o : IsTotalOrder R) where
  -- keys above one that compares as equal to k don't compare as equal to k
  apart : (k x : K) (es : List (K × X)) → R k x ≡ Equal → T (below_all R x es) → where_key R (λ y. not (eq_by_cmp R k y)) es ≡ es
  apart k x [] e h = refl
  apart k x (f ∷ es) e h =
      let rest : List (K × X) = where_key R (λ y. not (eq_by_cmp R k y)) es in
      ap (λ r. cond (not (is_eq r)) (f ∷ rest) rest) (o.congr k x f.0 e ∙ less _ (first _ _ h))
      ∙ ap (λ t. f ∷ t) (apart k x es e (second _ _ h))

  pub insert_of_tree : (m n : BTreeMap K X) (k : K) (v : X) → tree.IsOrdered R m → tree.IsOrdered R n → n.entries ≡ insert_entry R m.entries k v → from_sorted {R = R} n.entries ≡ insert (from_sorted m.entries) k v
  insert_of_tree m n k v hm hn e =
      same_entries_map _ _ (entries_of_tree R n hn ∙ e ∙ put_is R m.entries k v ∙ ap (put R k v) (sym (entries_of_tree R m hm)) ∙ sym (entries-insert o (from_sorted m.entries) k v))
