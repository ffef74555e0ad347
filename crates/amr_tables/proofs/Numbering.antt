-- What a numbering of keys shows, and how it changes.
use Rattle.std.proofs.Common.{◌≡◌, ℕ, T, List, [], ◌∷◌, ◌++◌, Option, None, Some, length, refl, ap, ◌∙◌, arith, slice_set}
use Rattle.std.specs.Prelude.{option_and_then}
use Rattle.std.specs.List.{filter_map}
use Rattle.std.specs.declared.cmp.Ordering.{Ordering}
use Rattle.std.specs.declared.cmp.Ordering.TheVariants.{Equal}
use Rattle.std.specs.Cmp.{IsTotalOrder, eq_by_cmp_equiv, tied_itself}
use Rattle.std.specs.FinMap.{find, put, is_sorted, IsAntisymmetric}
use Rattle.std.specs.FinMap.Entries.{below_all, find-put, is_sorted-put, length-put}
use Rattle.std.proofs.lemmas.Option.{gets, slice_get_past}
use Rattle.std.proofs.lemmas.Bool.Decides.{nat_tests}
use Rattle.std.proofs.lemmas.List.{length_push}
use Rattle.amr_labels.specs.Map.{from_sorted, entries, get, empty, same_map, same_entries_map, set, entries-from_sorted, get-entries, get-set}
use Rattle.amr_tables.specs.Places.{value_at}
use Rattle.amr_tables.proofs.Counting.{alike}
use Rattle.amr_tables.proofs.Present.{get_push, get_set}
use Rattle.amr_tables.specs.Numbered.{Numbered, entry_at, map_of, IsNumbering}

module _ {K V : Type 0} (R : K → K → Ordering) where
  -- keys above one that ties with q
  absent : IsTotalOrder R → (cells : List (Option V)) (q x : K) (es : List (K × ℕ)) → R q x ≡ Equal → T (below_all R x es) → find R q (filter_map (entry_at cells) es) ≡ None
  absent o cells q x [] tie h = refl
  absent o cells q x (e ∷ es) tie h = let rest = absent o cells q x es tie in grind (arith, rest, o.congr q x e.0 tie, h)

  find-entries : IsTotalOrder R → (cells : List (Option V)) (q : K) (es : List (K × ℕ)) → T (is_sorted R es) → find R q (filter_map (entry_at cells) es) ≡ option_and_then (value_at cells) (find R q es)
  find-entries o cells q [] h = refl
  find-entries o cells q (e ∷ es) h = let rest = find-entries o cells q es in grind (arith, rest, absent o cells q e.0 es, h)

  below-entries : (cells : List (Option V)) (x : K) (es : List (K × ℕ)) → T (below_all R x es) → T (below_all R x (filter_map (entry_at cells) es))
  below-entries cells x [] h = tt
  below-entries cells x (e ∷ es) h = let rest = below-entries cells x es in grind (arith, rest, h)

  sorted-entries : (cells : List (Option V)) (es : List (K × ℕ)) → T (is_sorted R es) → T (is_sorted R (filter_map (entry_at cells) es))
  sorted-entries cells [] h = tt
  sorted-entries cells (e ∷ es) h = let rest = sorted-entries cells es in grind (arith, rest, below-entries cells e.0 es, h)

  pub entries-shown : (t : Numbered K V) → IsNumbering R t → entries (map_of R t) ≡ filter_map (entry_at t.cells) t.numbers
  unfolding map_of
  entries-shown t is = entries-from_sorted R _ (sorted-entries t.cells t.numbers is.sorted)

  pub get-shown : IsTotalOrder R → (t : Numbered K V) (q : K) → IsNumbering R t → get (map_of R t) q ≡ option_and_then (value_at t.cells) (find R q t.numbers)
  get-shown o t q is = get-entries (map_of R t) q ∙ ap (find R q) (entries-shown t is) ∙ find-entries o t.cells q t.numbers is.sorted

  -- no keys show nothing
  pub shown_none : (t : Numbered K V) → t.numbers ≡ [] → map_of R t ≡ empty
  unfolding map_of entries empty
  shown_none t none = same_entries_map _ _ (ap (λ (es : List (K × ℕ)). entries (from_sorted {R = R} (filter_map (entry_at t.cells) es))) none ∙ entries-from_sorted R [] tt)

-- what a table shows, by a name that a function's attribute can give
pub ruleset shown = (get-shown, gets)

-- ---- changes

module _ {K V : Type 0} {R : K → K → Ordering} (o : IsTotalOrder R) (t u : Numbered K V) (is : IsNumbering R t) where
  -- a key more, whose place has no value
  module _ (k : K) (none : find R k t.numbers ≡ None) (numbers : u.numbers ≡ put R k (length t.cells) t.numbers) (cells : u.cells ≡ t.cells ++ None ∷ []) where
    pub added_is : IsNumbering R u
    added_is = record {
      sorted = rw numbers (is_sorted-put R o k (length t.cells) t.numbers is.sorted);
      within = λ key m e. grind (arith, find-put R o key k (length t.cells) t.numbers, is.within key m, length_push t.cells None, numbers, cells, e);
      apart = λ key other m e f. grind (arith, find-put R o key k (length t.cells) t.numbers, find-put R o other k (length t.cells) t.numbers, is.within key m, is.within other m, is.apart key other m, (eq_by_cmp_equiv o).congr other k key, (eq_by_cmp_equiv o).symm k key, numbers, e, f);
    }

    pub added_shown : IsAntisymmetric R → map_of R u ≡ map_of R t
    added_shown exact = same_map o exact _ _ (λ q. grind (arith, nat_tests, get-shown R o t q is, get-shown R o u q added_is, find-put R o q k (length t.cells) t.numbers, alike o q k t.numbers, get_push t.cells None, slice_get_past t.cells (length t.cells), is.within q, none, numbers, cells))

  -- the key with a number has another value
  pub swapped_shown : IsAntisymmetric R → IsNumbering R u → (k : K) (n : ℕ) (v : Option V) → find R k t.numbers ≡ Some n → u.numbers ≡ t.numbers → u.cells ≡ slice_set t.cells n v → map_of R u ≡ set (map_of R t) k v
  swapped_shown exact now k n v at numbers cells = same_map o exact _ _ (λ q. grind (arith, nat_tests, get-shown R o t q is, get-shown R o u q now, get-set o (map_of R t) k v q, get_set t.cells n v (is.within k n at), alike o q k t.numbers, is.apart k q n, at, numbers, cells))

pub ruleset placed = (find-put, get_push, slice_get_past, tied_itself)
