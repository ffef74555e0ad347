-- Texts are ordered as their heads are, if these differ.
use Rattle.std.proofs.Common.{arith, ◌≡◌, ℕ, zero, suc, ◌+◌, ◌*◌, ◌<◌, ◌≤◌, [], ◌∷◌, ◌++◌, ◌&&◌, true, false, cond, length, take, drop, get_or, nat_eq, Bool, refl, sym, ap, ◌∙◌, Ordering, Less, Equal, Greater, true≢false, get_or-drop, take-append-drop}
use Rattle.std.specs.Cmp.{tied_itself}
use Rattle.std.specs.Cmp.Lexicographic.{nat_list_cmp_total}
use Rattle.std.specs.Ordering.{nat_cmp, ordering_index, ordering_then, ordering_reverse, match_ordering, is_lt}
use Rattle.std.proofs.lemmas.Cmp.{nat_cmp_total}
use Rattle.std.proofs.lemmas.Bool.Decides.{nat_tests}
use Rattle.amr_labels.specs.Labels.{Text, text_cmp}
use Rattle.amr_labels.specs.Head.{with_head, standing, head_past}
use lib.Pointwise.{pointwise, bytes_decides}

abbrev pub AreBytes : Text → Type 0
AreBytes text = (k : ℕ) → get_or text k 0 < 256

dropped_are_bytes : (n : ℕ) (text : Text) → AreBytes text → AreBytes (drop n text)
dropped_are_bytes n text h k = rw (get_or-drop n text k 0) (h (n + k))

-- the next digit
next_digit : (n x : ℕ) (text : Text) → with_head (suc n) x text ≡ with_head n (x * 256 + get_or text 0 0) (drop 1 text)
next_digit n x [] = ap (λ m. with_head n m []) (omega arith)
next_digit n x (b ∷ text) = refl

-- a lesser number is the lesser whatever digits follow
rises : (n x y : ℕ) (s t : Text) → AreBytes s → x < y → with_head n x s < with_head n y t
rises zero x y s t h l = l
rises (suc n) x y s t h l =
    let small = h 0 in
    rw (next_digit n x s, next_digit n y t) (rises n _ _ (drop 1 s) (drop 1 t) (dropped_are_bytes 1 s h) (omega (arith, l, small)))

-- zeros are the least digits
least : (n x y : ℕ) (s : Text) → x ≤ y → with_head n x [] ≤ with_head n y s
least zero x y s l = l
least (suc n) x y s l = rw (next_digit n y s) (least n (x * 256) _ (drop 1 s) (omega (arith, l)))

first_decides : (a b head_t : ℕ) (head_s : ℕ → ℕ) (o : Ordering) → (head_s b < head_t → o ≡ Less) → (b < a → head_t < head_s a) → head_s a < head_t → ordering_then (nat_cmp a b) o ≡ Less
first_decides a b head_t head_s o later over l = grind (arith, nat_tests)

-- the first digits that differ decide
heads_decide : (n x : ℕ) (s t : Text) → AreBytes t → with_head n x s < with_head n x t → text_cmp s t ≡ Less
heads_decide zero x s t h l = absurd (omega (arith, l))
heads_decide (suc n) x [] [] h l = heads_decide n (x * 256) [] [] h l
heads_decide (suc n) x [] (b ∷ t) h l = refl
heads_decide (suc n) x (a ∷ s) [] h l = absurd (omega (arith, l, least n (x * 256) (x * 256 + a) s (omega arith)))
heads_decide (suc n) x (a ∷ s) (b ∷ t) h l =
    let bytes = dropped_are_bytes 1 (b ∷ t) h in
    first_decides a b (with_head n (x * 256 + b) t) (λ c. with_head n (x * 256 + c) s) (text_cmp s t) (heads_decide n (x * 256 + b) s t bytes)
    (λ over. rises n (x * 256 + b) (x * 256 + a) t s bytes (omega (arith, over))) l

-- ---- texts before, among and after those that begin with a prefix

abbrev Before : Ordering → Ordering → Type 0
Before r q = ordering_index r < ordering_index q

first_apart : (a b p : ℕ) (r q o : Ordering) → (Before r q → o ≡ Less) → Before (ordering_then (nat_cmp a p) r) (ordering_then (nat_cmp b p) q) → ordering_then (nat_cmp a b) o ≡ Less
first_apart a b p r q o later h = grind (arith, nat_tests)

-- of two texts that stand apart the first is the lesser
apart : (ps s t : Text) → Before (standing ps s) (standing ps t) → text_cmp s t ≡ Less
apart [] s t h = absurd (omega (arith, h))
apart (p ∷ ps) [] [] h = absurd (omega (arith, h))
apart (p ∷ ps) [] (b ∷ t) h = refl
apart (p ∷ ps) (a ∷ s) [] h = absurd (omega (arith, h))
apart (p ∷ ps) (a ∷ s) (b ∷ t) h = first_apart a b p (standing ps s) (standing ps t) (text_cmp s t) (apart ps s t) h

first_among : (a b p : ℕ) (r q o rest : Ordering) → (r ≡ Equal → q ≡ Equal → o ≡ rest) → ordering_then (nat_cmp a p) r ≡ Equal → ordering_then (nat_cmp b p) q ≡ Equal → ordering_then (nat_cmp a b) o ≡ rest
first_among a b p r q o rest later e f = grind (arith, nat_tests)

-- texts among those that begin with the prefix are ordered as what follows it
among : (ps s t : Text) → standing ps s ≡ Equal → standing ps t ≡ Equal → text_cmp s t ≡ text_cmp (drop (length ps) s) (drop (length ps) t)
among [] s t e f = refl
among (p ∷ ps) (a ∷ s) (b ∷ t) e f = first_among a b p (standing ps s) (standing ps t) (text_cmp s t) _ (among ps s t) e f
among (p ∷ ps) _ _ e f = cc

one_differs : (r q o : Ordering) (s0 s1 s2 t0 t1 t2 : ℕ) → (Before r q → o ≡ Less) → (s0 < t0 → o ≡ Less) → (r ≡ Equal → q ≡ Equal → s1 < t1 → o ≡ Less) → (s2 < t2 → o ≡ Less)
    → t0 < s1 → t0 < s2 → t1 < s2 → match_ordering r s0 s1 s2 < match_ordering q t0 t1 t2 → o ≡ Less
one_differs r q o s0 s1 s2 t0 t1 t2 before first same last low lowest lower l = grind arith

-- the text with the lesser head is the lesser
pub heads_differ : (ps s t : Text) → AreBytes s → AreBytes t → head_past ps s < head_past ps t → text_cmp s t ≡ Less
heads_differ ps s t hs ht l =
    let later_s = drop (length ps) s in
    let later_t = drop (length ps) t in
    let bytes = dropped_are_bytes (length ps) t ht in
    one_differs (standing ps s) (standing ps t) (text_cmp s t) _ _ _ _ _ _ (apart ps s t) (heads_decide 7 0 s t ht)
    (λ e f less. among ps s t e f ∙ heads_decide 7 1 later_s later_t bytes less) (heads_decide 7 2 s t ht)
    (rises 7 0 1 t later_s ht (omega arith)) (rises 7 0 2 t s ht (omega arith)) (rises 7 1 2 later_t s bytes (omega arith)) l

numbers_tell : (x y : ℕ) (o : Ordering) → (x < y → o ≡ Less) → (y < x → o ≡ Greater) → (x ≡ y → ⊥) → nat_cmp x y ≡ o
numbers_tell x y o less greater apart = grind (arith, nat_tests)

-- heads that differ are ordered as the texts are
pub heads_tell : (ps s t : Text) → AreBytes s → AreBytes t → (head_past ps s ≡ head_past ps t → ⊥) → nat_cmp (head_past ps s) (head_past ps t) ≡ text_cmp s t
heads_tell ps s t hs ht e =
    numbers_tell (head_past ps s) (head_past ps t) (text_cmp s t) (heads_differ ps s t hs ht)
    (λ l. nat_list_cmp_total.antisymm s t ∙ ap ordering_reverse (heads_differ ps t s ht hs l)) e

-- a text that begins with the prefix is among those
begins : (ps rest : Text) → standing ps (ps ++ rest) ≡ Equal
begins [] rest = refl
begins (p ∷ ps) rest = ap (λ r. ordering_then r (standing ps (ps ++ rest))) (tied_itself nat_cmp_total p) ∙ begins ps rest

standing_at : (ps text : Text) (r : Ordering) → standing ps text ≡ r → head_past ps text ≡ match_ordering r (with_head 7 0 text) (with_head 7 1 (drop (length ps) text)) (with_head 7 2 text)
standing_at ps text r e = ap (λ r. match_ordering r (with_head 7 0 text) (with_head 7 1 (drop (length ps) text)) (with_head 7 2 text)) e

pub head_inside : (ps text : Text) → pointwise nat_eq (take (length ps) text) ps ≡ true → head_past ps text ≡ with_head 7 1 (drop (length ps) text)
head_inside ps text e =
    standing_at ps text Equal (
    ap (standing ps) (sym (take-append-drop (length ps) text) ∙ ap (λ xs. xs ++ drop (length ps) text) ((bytes_decides (take (length ps) text) ps).0 e))
    ∙ begins ps (drop (length ps) text))

first_outside : (b p : ℕ) (same : Bool) (r o : Ordering) → (same ≡ false → r ≡ cond (is_lt o) Less Greater) → (nat_eq b p && same) ≡ false
    → ordering_then (nat_cmp b p) r ≡ cond (is_lt (ordering_then (nat_cmp b p) o)) Less Greater
first_outside b p same r o later e = grind (arith, nat_tests)

outside : (ps text : Text) → pointwise nat_eq (take (length ps) text) ps ≡ false → standing ps text ≡ cond (is_lt (text_cmp text ps)) Less Greater
outside [] text e = absurd (true≢false e)
outside (p ∷ ps) [] e = refl
outside (p ∷ ps) (b ∷ bs) e = first_outside b p _ (standing ps bs) (text_cmp bs ps) (outside ps bs) e

-- and of one that does not
pub head_outside : (ps text : Text) → pointwise nat_eq (take (length ps) text) ps ≡ false → head_past ps text ≡ cond (is_lt (text_cmp text ps)) (with_head 7 0 text) (with_head 7 2 text)
head_outside ps text e = grind (arith, standing_at ps text (cond (is_lt (text_cmp text ps)) Less Greater) (outside ps text e))
