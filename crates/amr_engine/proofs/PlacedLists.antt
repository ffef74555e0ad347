-- Finite maps at a key, at other keys and by their entries, and lists item by item.
use Rattle.std.proofs.Common.{[], ◌≡◌, Bool, true, false, not, ◌⊎◌, List, ◌∷◌, Some, None, cond, All, Contains, filter, Ordering, refl, sym, ap, ◌∙◌, arith}
use Rattle.std.specs.Ordering.{eq_by_cmp, is_eq}
use Rattle.std.specs.Cmp.{IsTotalOrder}
use Rattle.std.specs.FinMap.{find, IsAntisymmetric}
use Rattle.std.proofs.lemmas.Cmp.{tied_itself, eq_by_cmp_equiv}
use Rattle.std.proofs.lemmas.Map.Views.{tells_apart, Contains-from_lookup}
use Rattle.std.proofs.lemmas.List.Elements.{All-weaker, All-contains, All-filter, filter_passes, All-from_recursion}
use Rattle.amr_labels.specs.Map.{Map, get, insert, remove, entries, get-insert, get-remove, get-entries, entries-sorted}
use Rattle.amr_engine.proofs.Listed.{none_listed, listed_filter}
use Rattle.amr_labels.proofs.Pairs.{own_values}
use Rattle.std.specs.Map.{lookup}

-- ---- lists

module _ {X : Type 0} (p : X → Bool) where
  pub each_kept : (P Q : X → Type 0) → ((x : X) → p x ≡ true → P x → Q x) → (xs : List X) → All P xs → All Q (filter p xs)
  each_kept P Q f xs h = λ k d less. f _ (filter_passes p xs k d less) (All-filter p P xs h k d less)

  -- where no item fails a test, each passes it
  pub all_pass : (x : X) (xs : List X) → filter (λ y. not (p y)) xs ≡ [] → Contains xs x → p x ≡ true
  all_pass x xs none among = grind (arith, none_listed x, listed_filter (λ y. not (p y)) xs x)

-- ---- maps

module _ {K : Type 0} {R : K → K → Ordering} (o : IsTotalOrder R) (exact : IsAntisymmetric R) where
  -- two keys are the same, or they differ and compare as different
  pub same_or_apart : (q k : K) → (q ≡ k) ⊎ ((q ≡ k → ⊥) × (eq_by_cmp R q k ≡ false))
  same_or_apart q k = grind (arith, tells_apart exact q k, (eq_by_cmp_equiv o).refl q)

module _ {K X : Type 0} {R : K → K → Ordering} (o : IsTotalOrder R) (exact : IsAntisymmetric R) where
  pub get-inserted : (m : Map R X) (k : K) (v : X) → get (insert m k v) k ≡ Some v
  get-inserted m k v = get-insert o m k v k ∙ ap (λ r. cond (is_eq r) (Some v) (get m k)) (tied_itself o k)

  pub get-insert_apart : (m : Map R X) (k : K) (v : X) (q : K) → eq_by_cmp R q k ≡ false → get (insert m k v) q ≡ get m q
  get-insert_apart m k v q apart = get-insert o m k v q ∙ ap (λ b. cond b (Some v) (get m q)) apart

  pub get-removed : (m : Map R X) (k : K) → get (remove m k) k ≡ None
  get-removed m k = get-remove o m k k ∙ ap (λ r. cond (is_eq r) None (get m k)) (tied_itself o k)

  pub get-remove_apart : (m : Map R X) (k q : K) → eq_by_cmp R q k ≡ false → get (remove m k) q ≡ get m q
  get-remove_apart m k q apart = get-remove o m k q ∙ ap (λ b. cond b None (get m q)) apart

  -- what a map has after an insertion was inserted, or it had it before
  pub get-insert_cases : (m : Map R X) (k : K) (v : X) (q : K) (w : X) → get (insert m k v) q ≡ Some w → ((q ≡ k) × (v ≡ w)) ⊎ (get m q ≡ Some w)
  get-insert_cases m k v q w e = grind (arith, get-insert o m k v q, tells_apart exact q k)

  -- what a map has after a removal it had before
  pub get-after_remove : (m : Map R X) (k q : K) (v : X) → get (remove m k) q ≡ Some v → (q ≡ k → ⊥) × (get m q ≡ Some v)
  get-after_remove m k q v e = grind (arith, get-remove o m k q, (eq_by_cmp_equiv o).refl q)

  pub get-before_remove : (m : Map R X) (k q : K) (v : X) → get (remove m k) q ≡ Some v → get m q ≡ Some v
  get-before_remove m k q v e = (get-after_remove m k q v e).1

  pub get-remove_none : (m : Map R X) (k q : K) → get m q ≡ None → get (remove m k) q ≡ None
  get-remove_none m k q e = grind (arith, get-remove o m k q)

  -- a map has each of its entries
  pub get-each : (m : Map R X) → All (λ (e : K × X). get m e.0 ≡ Some e.1) (entries m)
  get-each m = All-weaker (λ (e : K × X). find R e.0 (entries m) ≡ Some e.1) (λ (e : K × X). get m e.0 ≡ Some e.1) (λ e found. get-entries m e.0 ∙ found)
      (entries m) (All-from_recursion (λ (e : K × X). find R e.0 (entries m) ≡ Some e.1) (entries m) (own_values o (entries m) (entries-sorted m)))

  pub get-among : (m : Map R X) (q : K) (v : X) → Contains (entries m) (q, v) → get m q ≡ Some v
  get-among m q v among = All-contains (λ (e : K × X). get m e.0 ≡ Some e.1) (entries m) (q, v) (get-each m) among

  looked_up : (q : K) (es : List (K × X)) → find R q es ≡ lookup (eq_by_cmp R q) es
  looked_up q [] = refl
  looked_up q (e ∷ es) = ap (cond (eq_by_cmp R q e.0) (Some e.1)) (looked_up q es)

  -- what a map has is one of its entries
  pub among_entries : (m : Map R X) (q : K) (v : X) → get m q ≡ Some v → Contains (entries m) (q, v)
  among_entries m q v e = Contains-from_lookup (tells_apart exact) q v (entries m) (sym (looked_up q (entries m)) ∙ sym (get-entries m q) ∙ e)
