-- Lists of matchers with the same elements are the same when sorted.
use Rattle.std.proofs.Common.{◌≡◌, ℕ, ◌<◌, suc, cond, List, [], ◌∷◌, ◌++◌, inl, inr, refl, sym, ap, if◌then◌else◌, subst, arith, IsPermutation, IsSorted, sum_by, Ordering, is_eq, is_gt}
use Rattle.std.proofs.lemmas.List.Sorted.{sum_by-IsPermutation}
use Rattle.std.proofs.lemmas.Bool.{cases_Bool}
use Rattle.std.proofs.lemmas.List.Sums.{sum_by-cons, sum_by-append}
use Rattle.std.specs.Cmp.{IsTotalOrder, tied_itself}
use Rattle.std.specs.FinMap.{IsAntisymmetric}
use Rattle.amr_labels.specs.Matcher.Matchers.{Matcher, matcher_cmp, matcher_cmp_total, matcher_cmp-IsAntisymmetric}
use Rattle.amr_config.specs.Routing.{with_matcher, sorted_matchers}

-- ---- two matchers may be inserted in either order

abbrev with_one : {X : Type 0} → (X → X → Ordering) → List X → X → List X
with_one cmp [] x = x ∷ []
with_one cmp (y ∷ ys) x = if is_gt (cmp y x) then x ∷ y ∷ ys else y ∷ with_one cmp ys x

either_one : {X : Type 0} (cmp : X → X → Ordering) → IsTotalOrder cmp → IsAntisymmetric cmp → (a b : X) (xs : List X) → with_one cmp (with_one cmp xs a) b ≡ with_one cmp (with_one cmp xs b) a
either_one cmp total same a b [] = grind (arith, total.antisymm a b, same a b)
either_one cmp total same a b (x ∷ xs) =
    grind (arith, either_one cmp total same a b xs, total.antisymm, total.trans a b x, total.trans b a x, same)

as_one : (ms : List Matcher) (a : Matcher) → with_matcher ms a ≡ with_one matcher_cmp ms a
as_one [] a = refl
as_one (m ∷ ms) a = ap (λ l. if is_gt (matcher_cmp m a) then a ∷ m ∷ ms else m ∷ l) (as_one ms a)

either : (a b : Matcher) (ms : List Matcher) → with_matcher (with_matcher ms a) b ≡ with_matcher (with_matcher ms b) a
either a b ms = simp as_one (either_one matcher_cmp matcher_cmp_total matcher_cmp-IsAntisymmetric a b ms)

-- a matcher inside a list may be inserted last
inserted : (us vs : List Matcher) (x : Matcher) → sorted_matchers (us ++ x ∷ vs) ≡ with_matcher (sorted_matchers (us ++ vs)) x
inserted [] vs x = refl
inserted (u ∷ us) vs x = grind (arith, inserted us vs x, either x u (sorted_matchers (us ++ vs)))

-- ---- lists that have each matcher equally often

abbrev one_if_same : Matcher → Matcher → ℕ
one_if_same x y = cond (is_eq (matcher_cmp x y)) 1 0

abbrev times : Matcher → List Matcher → ℕ
times x ys = sum_by (one_if_same x) ys

found : (x : Matcher) (ys : List Matcher) → 0 < times x ys → (us : List Matcher) × (vs : List Matcher) × (ys ≡ us ++ x ∷ vs)
found x [] there = absurd (omega arith)
found x (y ∷ ys) there =
    elim (cases_Bool (is_eq (matcher_cmp x y))) [
      | inl same ↦ ([], ys, grind (arith, matcher_cmp-IsAntisymmetric x y))
      | inr apart ↦ let (us, vs, is) = found x ys (grind (arith, sum_by-cons)) in (y ∷ us, vs, ap (λ l. y ∷ l) is)
    ]

-- the list has its first matcher
has_first : (x : Matcher) (xs : List Matcher) → 0 < times x (x ∷ xs)
has_first x xs = grind (arith, sum_by-cons (one_if_same x) x xs, tied_itself matcher_cmp_total x)

same_sorted : (xs ys : List Matcher) → ((z : Matcher) → times z xs ≡ times z ys) → sorted_matchers xs ≡ sorted_matchers ys
same_sorted [] [] h = refl
same_sorted [] (y ∷ ys) h = absurd (omega (arith, h y, has_first y ys))
same_sorted (x ∷ xs) ys h =
    let (us, vs, is) = found x ys (omega (arith, h x, has_first x xs)) in
    let rest = same_sorted xs (us ++ vs) (λ z.
    omega (arith, h z, ap (times z) is, sum_by-cons (one_if_same z) x xs, sum_by-cons (one_if_same z) x vs, sum_by-append (one_if_same z) us (x ∷ vs), sum_by-append (one_if_same z) us vs)) in
    grind (arith, inserted us vs x)

-- ---- lists that are in order

rest_in_order : (y : Matcher) (ys : List Matcher) → IsSorted matcher_cmp (y ∷ ys) → IsSorted matcher_cmp ys
rest_in_order y ys h k d low high =
    let above = h (suc k) d (omega arith) (omega arith) in
    grind arith

first_stays : (y : Matcher) (zs : List Matcher) → IsSorted matcher_cmp (y ∷ zs) → with_matcher zs y ≡ y ∷ zs
first_stays y [] h = refl
first_stays y (z ∷ zs) h =
    let again : z ≡ y → with_matcher zs y ≡ y ∷ zs = λ e. first_stays y zs (subst (λ (m : Matcher). IsSorted matcher_cmp (m ∷ zs)) e (rest_in_order y (z ∷ zs) h)) in
    grind (arith, h 0 y, matcher_cmp-IsAntisymmetric z y)

in_order_stays : (ys : List Matcher) → IsSorted matcher_cmp ys → sorted_matchers ys ≡ ys
in_order_stays [] h = refl
in_order_stays (y ∷ ys) h = grind (arith, in_order_stays ys (rest_in_order y ys h), first_stays y ys h)

-- a list in order with the elements of another is that other, sorted
pub sorted_is : (xs ys : List Matcher) → IsPermutation xs ys → IsSorted matcher_cmp ys → ys ≡ sorted_matchers xs
sorted_is xs ys moved up = grind (arith, same_sorted xs ys (λ z. sym (sum_by-IsPermutation (one_if_same z) xs ys moved)), in_order_stays ys up)
