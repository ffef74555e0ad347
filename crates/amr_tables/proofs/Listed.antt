-- The values of a table that are listed with their keys, or alone.
use Rattle.std.proofs.Common.{◌≡◌, ℕ, zero, suc, ◌+◌, ◌<◌, T, Bool, List, [], ◌∷◌, ◌++◌, Option, Some, length, map, take, get_or, sym, ap, ◌∙◌, arith}
use Rattle.std.specs.Prelude.{option_map}
use Rattle.std.specs.Borrow.{Bor}
use Rattle.std.specs.declared.cmp.Ordering.{Ordering}
use Rattle.std.specs.List.{filter_map, cons_option, list_all}
use Rattle.std.proofs.lemmas.List.{take_more, map-append}
use Rattle.std.proofs.lemmas.List.Elements.{filter_map-append}
use Rattle.amr_labels.specs.Map.{entries, from_sorted, if_sorted, empty}
use Rattle.amr_tables.specs.Places.{value_at, values_of}
use Rattle.amr_tables.specs.Numbered.{Numbered, entry_at, numbered_key, map_of}

-- one key more, with its value if it has one
pub listed_more : {K V : Type 0} (cells : List (Option V)) (items : List (Bor K × ℕ)) (i : ℕ) (item : Bor K × ℕ) (value : Option V) {before after : List (K × V)} → i < length items → item ≡ get_or items i item → value ≡ value_at cells item.1
    → before ≡ filter_map (entry_at cells) (map numbered_key (take i items)) → after ≡ before ++ cons_option (option_map (λ v. (item.0.now, v)) value) [] → after ≡ filter_map (entry_at cells) (map numbered_key (take (i + 1) items))
listed_more cells items i item value within is found listed more =
    more ∙ (λ j. listed j ++ cons_option (option_map (λ v. (item.0.now, v)) (found j)) [])
    ∙ sym (filter_map-append (entry_at cells) (map numbered_key (take i items)) (numbered_key item ∷ []))
    ∙ sym (ap (filter_map (entry_at cells)) (ap (map numbered_key) (take_more items i item within ∙ ap (λ x. take i items ++ x ∷ []) (sym is)) ∙ map-append numbered_key (take i items) (item ∷ [])))

-- ---- what holds of each value holds of each entry

value_passes : {V : Type 0} (p : V → Bool) (cells : List (Option V)) (n : ℕ) (value : V) → T (list_all p (values_of cells)) → value_at cells n ≡ Some value → T (p value)
value_passes p [] n value all is = grind (arith, is)
value_passes p (cell ∷ cells) zero value all is = grind (arith, all, is)
value_passes p (cell ∷ cells) (suc n) value all is = let rest = value_passes p cells n value in grind (arith, rest, all, is)

covers : {K V : Type 0} (p : V → Bool) (cells : List (Option V)) (keys : List (K × ℕ)) → T (list_all p (values_of cells)) → T (list_all (λ entry. p entry.1) (filter_map (entry_at cells) keys))
covers p cells [] all = tt
covers p cells (key ∷ keys) all = let rest = covers p cells keys all in grind (arith, rest, value_passes p cells key.1, all)

-- what holds of all values of a table holds of all values of the map that it shows
pub present_covers : {K V : Type 0} (R : K → K → Ordering) (p : V → Bool) (t : Numbered K V) → T (list_all p (values_of t.cells)) → T (list_all (λ entry. p entry.1) (entries (map_of R t)))
unfolding map_of from_sorted entries if_sorted empty
present_covers R p t all = grind (arith, covers p t.cells t.numbers all)
