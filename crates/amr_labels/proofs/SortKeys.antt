-- Label sets are ordered as their sort keys are, if no name and no value has a 0.
use Rattle.std.proofs.Common.{arith, ◌≡◌, ◌==◌, ℕ, List, [], ◌∷◌, ◌++◌, false, refl, ap, ◌∙◌, Ordering, Less, Greater, append_assoc}
use Rattle.std.specs.Cmp.Lexicographic.{slice_cmp}
use Rattle.std.specs.Ordering.{nat_cmp, ordering_then}
use Rattle.std.proofs.lemmas.Bool.{or_parts}
use Rattle.std.proofs.lemmas.Bool.Decides.{nat_tests}
use Rattle.amr_labels.specs.Labels.{Text, text_cmp, label_cmp}
use Rattle.amr_labels.specs.SortKey.{key_of_text, key_of_label, sort_key, has_zero, label_has_zero, has_zeros}

then_then : (a b c : Ordering) → ordering_then a (ordering_then b c) ≡ ordering_then (ordering_then a b) c
then_then a b c = grind arith

end_first : (b : ℕ) (text : Text) (o : Ordering) → has_zero (b ∷ text) ≡ false → ordering_then (nat_cmp 0 b) o ≡ Less
end_first b text o h = let parts = or_parts (b == 0) (has_zero text) h in grind (arith, nat_tests)

end_last : (b : ℕ) (text : Text) (o : Ordering) → has_zero (b ∷ text) ≡ false → ordering_then (nat_cmp b 0) o ≡ Greater
end_last b text o h = let parts = or_parts (b == 0) (has_zero text) h in grind (arith, nat_tests)

-- the keys of two texts decide, and then what follows them
texts_decide : (s t : Text) (xs ys : List ℕ) → has_zero s ≡ false → has_zero t ≡ false
    → slice_cmp nat_cmp (key_of_text s ++ xs) (key_of_text t ++ ys) ≡ ordering_then (text_cmp s t) (slice_cmp nat_cmp xs ys)
texts_decide [] [] xs ys hs ht = refl
texts_decide [] (b ∷ t) xs ys hs ht = end_first b t _ ht
texts_decide (a ∷ s) [] xs ys hs ht = end_last a s _ hs
texts_decide (a ∷ s) (b ∷ t) xs ys hs ht =
    ap (ordering_then (nat_cmp a b)) (texts_decide s t xs ys (or_parts (a == 0) (has_zero s) hs).1 (or_parts (b == 0) (has_zero t) ht).1)
    ∙ then_then (nat_cmp a b) (text_cmp s t) (slice_cmp nat_cmp xs ys)

-- the keys of two labels decide, and then what follows them
labels_decide : (a b : Text × Text) (xs ys : List ℕ) → label_has_zero a ≡ false → label_has_zero b ≡ false
    → slice_cmp nat_cmp (key_of_label a ++ xs) (key_of_label b ++ ys) ≡ ordering_then (label_cmp a b) (slice_cmp nat_cmp xs ys)
labels_decide a b xs ys ha hb =
    (λ i. slice_cmp nat_cmp (append_assoc (key_of_text a.0) (key_of_text a.1) xs i) (append_assoc (key_of_text b.0) (key_of_text b.1) ys i))
    ∙ texts_decide a.0 b.0 (key_of_text a.1 ++ xs) (key_of_text b.1 ++ ys) (or_parts (has_zero a.0) (has_zero a.1) ha).0 (or_parts (has_zero b.0) (has_zero b.1) hb).0
    ∙ ap (ordering_then (text_cmp a.0 b.0)) (texts_decide a.1 b.1 xs ys (or_parts (has_zero a.0) (has_zero a.1) ha).1 (or_parts (has_zero b.0) (has_zero b.1) hb).1)
    ∙ then_then (text_cmp a.0 b.0) (text_cmp a.1 b.1) (slice_cmp nat_cmp xs ys)

none_first : (label : Text × Text) (ys : List ℕ) → slice_cmp nat_cmp [] (key_of_label label ++ ys) ≡ Less
none_first ([], value) ys = refl
none_first (b ∷ name, value) ys = refl

none_last : (label : Text × Text) (xs : List ℕ) → slice_cmp nat_cmp (key_of_label label ++ xs) [] ≡ Greater
none_last ([], value) xs = refl
none_last (a ∷ name, value) xs = refl

pub by_sort_key : (xs ys : List (Text × Text)) → has_zeros xs ≡ false → has_zeros ys ≡ false
    → slice_cmp nat_cmp (sort_key xs) (sort_key ys) ≡ slice_cmp label_cmp xs ys
by_sort_key [] [] hx hy = refl
by_sort_key [] (b ∷ ys) hx hy = none_first b (sort_key ys)
by_sort_key (a ∷ xs) [] hx hy = none_last a (sort_key xs)
by_sort_key (a ∷ xs) (b ∷ ys) hx hy =
    labels_decide a b (sort_key xs) (sort_key ys) (or_parts (label_has_zero a) (has_zeros xs) hx).0 (or_parts (label_has_zero b) (has_zeros ys) hy).0
    ∙ ap (ordering_then (label_cmp a b)) (by_sort_key xs ys (or_parts (label_has_zero a) (has_zeros xs) hx).1 (or_parts (label_has_zero b) (has_zeros ys) hy).1)
