-- The items of a list, and of the set that is made of it.
use Rattle.std.proofs.Common.{[], ◌≡◌, ◌<◌, ◌⊎◌, Bool, true, List, ◌∷◌, map, length, ◌==◌, refl, sym, ap, ◌∙◌, subst, inl, inr, arith, zero, suc}
use Rattle.std.specs.List.{Contains, filter, flat_map, list_any}
use Rattle.std.specs.Ordering.{eq_by_cmp}
use Rattle.std.proofs.lemmas.Cmp.{eq_by_cmp_equiv}
use Rattle.std.proofs.lemmas.List.Elements.{All-contains, Contains-append_cases}
use Rattle.std.proofs.lemmas.List.Sums.{AllPass-from_list_all}
use Rattle.std.proofs.lemmas.Map.Views.{list_any-from_Contains, Contains-from_any, tells_apart}
use Rattle.std.proofs.lemmas.Bool.Decides.{nat_tests}
use Rattle.amr_labels.specs.Set.{contains, from_list, is_subset}
use Rattle.amr_labels.specs.Labels.{LabelSet, label_set_cmp, label_set_cmp_total, label_set_cmp-IsAntisymmetric}
use Rattle.amr_rules.specs.Dedup.{LabelSets}
use Rattle.amr_rules.proofs.Sets.{get-from_list}
use Rattle.amr_rules.proofs.Subsets.{all_in}
use Rattle.std.proofs.lemmas.List.{length-map, get_or-map}
use Rattle.std.proofs.lemmas.Bool.{cond_both}

module _ {X : Type 0} where
  pub none_listed : (x : X) → Contains [] x → ⊥
  none_listed x h = let before : h.0 < 0 = h.1 in omega (arith, before)

  pub first_or_rest : (x y : X) (xs : List X) → Contains (x ∷ xs) y → (x ≡ y) ⊎ Contains xs y
  first_or_rest x y xs (zero, lt, e) = inl e
  first_or_rest x y xs (suc k, lt, e) = inr (k, omega arith, e)

  pub listed_first : (x : X) (xs : List X) → Contains (x ∷ xs) x
  listed_first x xs = (0, omega arith, refl)

  pub listed_later : (x y : X) (xs : List X) → Contains xs y → Contains (x ∷ xs) y
  listed_later x y xs h = (suc h.0, omega (arith, h.1), h.2)

  pub none_left : (xs : List X) → (length xs == 0) ≡ true → xs ≡ []
  none_left [] e = refl
  none_left (x ∷ xs) e = absurd (grind (arith, nat_tests))

  -- what passes the test stays
  pub listed_filter : (p : X → Bool) (xs : List X) (x : X) → p x ≡ true → Contains xs x → Contains (filter p xs) x
  listed_filter p [] x passes h = h
  listed_filter p (y ∷ ys) x passes h = cond_both (p y) (y ∷ filter p ys) (filter p ys) (λ l. Contains l x)
      (λ _. elim (first_or_rest y x ys h) [ inl same ↦ subst (Contains (y ∷ filter p ys)) same (listed_first y (filter p ys)) | inr rest ↦ listed_later y x (filter p ys) (listed_filter p ys x passes rest) ])
      (λ no. elim (first_or_rest y x ys h) [ inl same ↦ absurd (cc (ap p same, no, passes)) | inr rest ↦ listed_filter p ys x passes rest ])

module _ {X Y : Type 0} where
  pub listed_map : (f : X → Y) (xs : List X) (x : X) → Contains xs x → Contains (map f xs) (f x)
  listed_map f xs x h = (h.0, omega (arith, h.1, length-map xs f), get_or-map f xs h.0 x (f x) h.1 ∙ ap f h.2)

  -- an item of the values is the value of an item
  pub from_map : (f : X → Y) (xs : List X) (y : Y) → Contains (map f xs) y → (x : X) × Contains xs x × (f x ≡ y)
  from_map f [] y h = absurd (none_listed y h)
  from_map f (x ∷ xs) y h =
      elim (first_or_rest (f x) y (map f xs) h) [
        | inl same ↦ (x, listed_first x xs, same)
        | inr rest ↦ let found = from_map f xs y rest in (found.0, listed_later x found.0 xs found.1, found.2)
      ]

  pub from_flat_map : (f : X → List Y) (xs : List X) (y : Y) → Contains (flat_map f xs) y → (x : X) × Contains xs x × Contains (f x) y
  from_flat_map f [] y h = absurd (none_listed y h)
  from_flat_map f (x ∷ xs) y h =
      elim (Contains-append_cases (f x) (flat_map f xs) y h) [
        | inl here ↦ (x, listed_first x xs, here)
        | inr rest ↦ let found = from_flat_map f xs y rest in (found.0, listed_later x found.0 xs found.1, found.2)
      ]

-- ---- the set of a list

set_contains : (ks : List LabelSet) (q : LabelSet) → contains (from_list {R = label_set_cmp} ks) q ≡ list_any (eq_by_cmp label_set_cmp q) ks
set_contains ks q = grind (arith, get-from_list label_set_cmp_total ks q)

-- what is in the set is in the list
pub listed_in_set : (ks : List LabelSet) (q : LabelSet) → contains (from_list {R = label_set_cmp} ks) q ≡ true → Contains ks q
listed_in_set ks q h = Contains-from_any (tells_apart label_set_cmp-IsAntisymmetric) q ks (sym (set_contains ks q) ∙ h)

-- what is in the list is in the set
pub in_set : (ks : List LabelSet) (q : LabelSet) → Contains ks q → contains (from_list {R = label_set_cmp} ks) q ≡ true
in_set ks q h = set_contains ks q ∙ list_any-from_Contains (eq_by_cmp_equiv label_set_cmp_total) q ks h

-- and in each set of which that set is a subset
pub in_superset : (ks : List LabelSet) (found : LabelSets) (q : LabelSet) → is_subset (from_list ks) found ≡ true → Contains ks q → contains found q ≡ true
in_superset ks found q all h = All-contains (λ (k : LabelSet). contains found k ≡ true) ks q (AllPass-from_list_all (contains found) ks (sym (all_in (contains found) ks) ∙ all)) h
