-- Pairs whose names strictly ascend: no name is repeated, so the map of the pairs has them as they
-- are.
use Rattle.std.proofs.Common.{◌≡◌, ◌+◌, ◌<◌, cond, T, List, [], ◌∷◌, ◌++◌, ℕ, suc, zero, None, Some, length, map, reverse, get_or, refl, sym, ap, subst, ◌∙◌, arith, Bool, true, false, is_eq, is_lt, Ordering, Less, Equal}
use Rattle.std.specs.Cmp.{IsTotalOrder}
use Rattle.std.specs.FinMap.{find, is_sorted, IsAntisymmetric}
use Rattle.std.specs.Option.{option_or}
use Rattle.std.specs.FinMap.Entries.{below_all}
use Rattle.std.specs.List.{IsAllAdjacentAnswer}
use Rattle.std.proofs.lemmas.Bool.{true≢false, false_from_ne_true}
use Rattle.std.proofs.lemmas.List.{get_or-map, length-map, reverse-append}
use Rattle.std.proofs.lemmas.Map.Keys.{sorted_from_all_adjacent}
use Rattle.amr_labels.proofs.Trees.{sorted_entries}
use Rattle.amr_labels.specs.Map.{from_entries, from_sorted, entries-from_sorted, get-entries, get-from_entries, same_map}
use Rattle.amr_labels.proofs.Sorted.{first, second, less}

is_less : (r : Ordering) → true ≡ is_lt r → r ≡ Less
is_less r t = grind arith

module _ {K X : Type 0} (R : K → K → Ordering) where
  find-append : (q : K) (xs ys : List (K × X)) → find R q (xs ++ ys) ≡ option_or (find R q xs) (find R q ys)
  find-append q [] ys = refl
  find-append q (e ∷ es) ys = grind (arith, find-append q es ys)

  -- the names of neighbours ascend
  pub neighbours_ascend : (es : List (K × X)) (k : ℕ) (d : K × X) → T (is_sorted R es) → k + 1 < length es → R (get_or es k d).0 (get_or es (k + 1) d).0 ≡ Less
  neighbours_ascend [] k d h within = absurd (omega (arith, within))
  neighbours_ascend (e ∷ []) k d h within = absurd (omega (arith, within))
  neighbours_ascend (e ∷ f ∷ es) zero d h within = less _ (first _ _ (first _ _ h))
  neighbours_ascend (e ∷ f ∷ es) (suc k) d h within =
      subst (λ n. R (get_or (f ∷ es) k d).0 (get_or (e ∷ f ∷ es) n d).0 ≡ Less) {x = suc (k + 1)} {y = suc k + 1} (omega arith) (neighbours_ascend (f ∷ es) k d (second _ _ h) (omega (arith, within)))

module _ {K X : Type 0} {R : K → K → Ordering} (o : IsTotalOrder R) where
  neighbours_decide : (es : List (K × X)) → ((k : ℕ) (d : K × X) → k + 1 < length es → R (get_or es k d).0 (get_or es (k + 1) d).0 ≡ Less) → T (is_sorted R es)
  neighbours_decide [] h = tt
  neighbours_decide (e ∷ es) h =
      sorted_entries R (e ∷ es) (sorted_from_all_adjacent o (map (λ e. e.0) (e ∷ es)) e.0 (λ k within.
      let inside : k + 1 < length (e ∷ es) = simp length-map at within in
      cc (get_or-map (λ (e : K × X). e.0) (e ∷ es) k e e.0 (omega (arith, inside)), get_or-map (λ (e : K × X). e.0) (e ∷ es) (k + 1) e e.0 inside, h k e inside)))

  no_neighbours : (es : List (K × X)) (k : ℕ) → k + 1 < length es → ((d : K × X) → false ≡ is_lt (R (get_or es k d).0 (get_or es (k + 1) d).0)) → is_sorted R es ≡ true → false ≡ true
  no_neighbours [] k within above sorted = absurd (omega (arith, within))
  no_neighbours (e ∷ es) k within above sorted = above e ∙ ap is_lt (neighbours_ascend R (e ∷ es) k e (subst T (sym sorted) tt) within)

  -- names ascend if those of all neighbours do
  pub ascending : (es : List (K × X)) (answer : Bool) → IsAllAdjacentAnswer (λ x y b. b ≡ is_lt (R x.0 y.0)) es answer → answer ≡ is_sorted R es
  ascending es true h =
      let sorted = neighbours_decide es (λ k d within. is_less _ (h k d within)) in
      grind arith
  ascending es false (k, within, above) = sym (false_from_ne_true _ (λ sorted. true≢false (sym (no_neighbours es k within above sorted))))

  -- nothing is found among greater entries
  not_above : (q x : K) (es : List (K × X)) → R q x ≡ Equal → T (below_all R x es) → find R q es ≡ None
  not_above q x [] t h = refl
  not_above q x (e ∷ es) t h =
      ap (λ r. cond (is_eq r) (Some e.1) (find R q es)) (o.congr q x e.0 t ∙ less _ (first _ _ h)) ∙ not_above q x es t (second _ _ h)

  last_or_first : (q : K) (e : K × X) (es : List (K × X)) → T (below_all R e.0 es) → option_or (find R q es) (find R q (e ∷ [])) ≡ find R q (e ∷ es)
  last_or_first q e es h =
      let tied = λ (t : R q e.0 ≡ Equal). not_above q e.0 es t h in
      grind (arith, tied)

  find-reverse : (q : K) (es : List (K × X)) → T (is_sorted R es) → find R q (reverse es) ≡ find R q es
  find-reverse q [] h = refl
  find-reverse q (e ∷ es) h =
      ap (find R q) (reverse-append (e ∷ []) es)
      ∙ find-append R q (reverse es) (e ∷ [])
      ∙ ap (λ found. option_or found (find R q (e ∷ []))) (find-reverse q es (second _ _ h))
      ∙ last_or_first q e es (first _ _ h)

  pub ascending_map : IsAntisymmetric R → (es : List (K × X)) → T (is_sorted R es) → from_sorted {R = R} es ≡ from_entries (reverse es)
  ascending_map same es h = same_map o same _ _ (λ q.
      get-entries (from_sorted es) q ∙ ap (find R q) (entries-from_sorted R es h)
      ∙ sym (get-from_entries o (reverse es) q ∙ find-reverse q es h))
