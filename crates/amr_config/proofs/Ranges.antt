-- Tests of all numbers below a limit.
use Rattle.std.proofs.Common.{◌≡◌, ℕ, zero, suc, ◌+◌, ◌<◌, ◌≤◌, Bool, true, false, [], ◌∷◌, ◌++◌, map, refl, arith, ◌||◌, filter, map-id}
use Rattle.std.specs.List.{list_any, range_with_len}
use Rattle.std.proofs.lemmas.List.FromFn.{map-range_with_len_more}
use Rattle.std.proofs.lemmas.List.Folds.{list_any-append}

-- below a number one test passes if the other does, and from there on it never passes
pub any_below : (f g : ℕ → Bool) (a n most : ℕ) → n ≤ most → ((m : ℕ) → a ≤ m → m < a + n → f m ≡ g m) → ((m : ℕ) → a + n ≤ m → f m ≡ false) → list_any f (range_with_len a most) ≡ list_any g (range_with_len a n)
any_below f g a n zero le same none = grind arith
any_below f g a zero (suc most) le same none = grind (arith, any_below f g (a + 1) zero most (omega (arith, le)) (λ m l h. grind arith) (λ m h. grind arith))
any_below f g a (suc n) (suc most) le same none = grind (arith, any_below f g (a + 1) n most (omega (arith, le)) (λ m l h. grind arith) (λ m h. grind arith))

pub any_none : (f : ℕ → Bool) (a n : ℕ) → ((m : ℕ) → a ≤ m → m < a + n → f m ≡ false) → list_any f (range_with_len a n) ≡ false
any_none f a zero none = refl
any_none f a (suc n) none = grind (arith, none a, any_none f (a + 1) n (λ m l h. grind arith))

pub range_more : (n : ℕ) → range_with_len 0 (n + 1) ≡ range_with_len 0 n ++ n ∷ []
range_more n = simp map-id at (map-range_with_len_more (λ (m : ℕ). m) 0 n n (omega arith))

pub any_more : (f : ℕ → Bool) (n : ℕ) → list_any f (range_with_len 0 (n + 1)) ≡ (list_any f (range_with_len 0 n) || f n)
any_more f n = grind (arith, range_more n, list_any-append)

pub any_wider : (f g : ℕ → Bool) (a n : ℕ) → ((m : ℕ) → f m ≡ true → g m ≡ true) → list_any f (range_with_len a n) ≡ true → list_any g (range_with_len a n) ≡ true
any_wider f g a zero wider h = h
any_wider f g a (suc n) wider h = grind (arith, wider a, any_wider f g (a + 1) n wider)

pub map_same : {X : Type 0} (f g : ℕ → X) (a n : ℕ) → ((m : ℕ) → a ≤ m → m < a + n → f m ≡ g m) → map f (range_with_len a n) ≡ map g (range_with_len a n)
map_same f g a zero same = refl
map_same f g a (suc n) same = grind (arith, same a, map_same f g (a + 1) n (λ m l h. grind arith))

-- tests that agree below a number keep the same numbers
pub filter_same : (f g : ℕ → Bool) (a n : ℕ) → ((m : ℕ) → a ≤ m → m < a + n → f m ≡ g m) → filter f (range_with_len a n) ≡ filter g (range_with_len a n)
filter_same f g a zero same = refl
filter_same f g a (suc n) same = grind (arith, same a, filter_same f g (a + 1) n (λ m l h. grind arith))
