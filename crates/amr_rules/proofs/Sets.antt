-- A set doesn't depend on the order of the list that it is made from.
use Rattle.std.proofs.Common.{◌≡◌, Bool, Some, None, List, [], ◌∷◌, reverse, cond, refl, sym, ap, ◌∙◌, arith}
use Rattle.std.specs.declared.cmp.Ordering.{Ordering}
use Rattle.std.specs.Ordering.{eq_by_cmp}
use Rattle.std.specs.Cmp.{IsTotalOrder}
use Rattle.std.specs.FinMap.{IsAntisymmetric}
use Rattle.std.specs.List.{list_any}
use Rattle.std.proofs.lemmas.Grind.{common_steps}
use Rattle.amr_labels.specs.Map.{get, get-empty, get-insert, same_map}
use Rattle.amr_labels.specs.Set.{from_list}

list_any-reverse : {K : Type 0} (test : K → Bool) (ks : List K) → list_any test (reverse ks) ≡ list_any test ks
list_any-reverse test [] = refl
list_any-reverse test (k ∷ ks) = grind (arith, common_steps, list_any-reverse test ks)

module _ {K : Type 0} {R : K → K → Ordering} (o : IsTotalOrder R) where
  -- a set has the keys of the list
  pub get-from_list : (ks : List K) (q : K) → get (from_list {R = R} ks) q ≡ cond (list_any (eq_by_cmp R q) ks) (Some tt) None
  get-from_list [] q = get-empty R q
  get-from_list (k ∷ ks) q = grind (arith, get-insert o (from_list ks) k tt q, get-from_list ks q)

  pub from_list-reverse : IsAntisymmetric R → (ks : List K) → from_list {R = R} (reverse ks) ≡ from_list ks
  from_list-reverse same ks =
      same_map o same _ _ (λ q.
      get-from_list (reverse ks) q ∙ ap (λ b. cond b (Some tt) None) (list_any-reverse (eq_by_cmp R q) ks) ∙ sym (get-from_list ks q))
