-- Laws of records that lie one after another in one list.
use Rattle.std.proofs.Common.{◌≡◌, ◌-◌, ◌≤◌, ◌<◌, List, [], ◌∷◌, ◌++◌, length, take, drop, map, refl, ap, arith, ℕ, Some, get_or}
use Rattle.std.specs.Prelude.{suc, sum, slice_get, option_map}
use Rattle.std.proofs.lemmas.List.{take-append-le, drop-append-le, drop-drop, length-drop, length-take-le, length_push, take_rest, take_all}
use Rattle.std.proofs.lemmas.List.Sums.{sum_by-cons, sum_by_push}
use Rattle.std.proofs.lemmas.Option.{slice_get-map, slice_get_read}
use Rattle.amr_tables.specs.Records.{records_of}

module _ {E : Type 0} where
  -- What follows the records doesn't matter.
  pub records_before : (sizes : List ℕ) (xs ys : List E) → sum sizes ≤ length xs → records_of sizes (xs ++ ys) ≡ records_of sizes xs
  unfolding records_of
  records_before [] xs ys fits = refl
  records_before (n ∷ sizes) xs ys fits =
      let rest = records_before sizes (drop n xs) ys in
      grind (arith, rest, sum_by-cons (λ x. x) n sizes, take-append-le n xs ys, drop-append-le n xs ys, length-drop n xs, fits)

  pub records_before_last : (sizes : List ℕ) (opened : ℕ) (xs : List E) (x : E) → opened ≡ sum sizes → 0 < length (drop opened (xs ++ x ∷ [])) → records_of sizes (xs ++ x ∷ []) ≡ records_of sizes xs
  records_before_last sizes opened xs x at some_open =
      records_before sizes xs (x ∷ []) (omega (arith, at, some_open, length-drop opened (xs ++ x ∷ []), length_push xs x))

  pub one_more_record : (sizes : List ℕ) (n : ℕ) (xs : List E) → records_of (sizes ++ n ∷ []) xs ≡ records_of sizes xs ++ take n (drop (sum sizes) xs) ∷ []
  unfolding records_of
  one_more_record [] n xs = refl
  one_more_record (m ∷ sizes) n xs = cc (one_more_record sizes n (drop m xs), drop-drop (sum sizes) m xs, sum_by-cons (λ x. x) m sizes)

  -- The open record becomes the last closed one.
  pub closed_last : (sizes : List ℕ) (opened : ℕ) (xs : List E) → opened ≡ sum sizes → records_of (sizes ++ (length xs - opened) ∷ []) xs ≡ records_of sizes xs ++ drop opened xs ∷ []
  closed_last sizes opened xs at = cc (one_more_record sizes (length xs - opened) xs, take_rest xs opened)

  -- The last closed record takes all that is left, if the open one is empty.
  pub reopened_last : (sizes : List ℕ) (n opened : ℕ) (xs : List E) → opened ≡ sum (sizes ++ n ∷ []) → drop opened xs ≡ [] → records_of (sizes ++ n ∷ []) xs ≡ records_of sizes xs ++ drop (opened - n) xs ∷ []
  reopened_last sizes n opened xs at none_open =
      grind (arith, one_more_record sizes n xs, sum_by_push (λ k. k) sizes n, take_all n (drop (opened - n) xs), length-drop (opened - n) xs, length-drop opened xs, at, none_open)

  pub lengths_are_sizes : (sizes : List ℕ) (xs : List E) → sum sizes ≤ length xs → map length (records_of sizes xs) ≡ sizes
  unfolding records_of
  lengths_are_sizes [] xs fits = refl
  lengths_are_sizes (n ∷ sizes) xs fits =
      let rest = lengths_are_sizes sizes (drop n xs) in
      grind (arith, rest, sum_by-cons (λ x. x) n sizes, length-take-le n xs, length-drop n xs, fits)

  pub count_of_records : (sizes : List ℕ) (xs : List E) → length (records_of sizes xs) ≡ length sizes
  unfolding records_of
  count_of_records [] xs = refl
  count_of_records (n ∷ sizes) xs = ap suc (count_of_records sizes (drop n xs))

  pub size_of_record : (sizes : List ℕ) (xs : List E) (i n : ℕ) → i < length sizes → sum sizes ≤ length xs → n ≡ get_or sizes i n → option_map length (slice_get (records_of sizes xs) i) ≡ Some n
  size_of_record sizes xs i n within fits is =
      cc (slice_get-map length (records_of sizes xs) i, lengths_are_sizes sizes xs fits, slice_get_read sizes (length sizes) i n refl within is)
