-- Runs of the machine over characters, and characters in bytes.
use Rattle.std.proofs.Common.{◌≡◌, ℕ, ◌+◌, ◌<◌, ◌≤◌, List, [], ◌∷◌, ◌++◌, length, take, drop, get_or, Option, Some, None, refl, arith, encode_utf8, encode_utf8_all, chars, option_and_then}
use Rattle.std.specs.Str.{IsUtf8, is_utf8, bytes_eq, all_scalars}
use Rattle.std.proofs.lemmas.Bool.{and_parts}
use Rattle.std.proofs.lemmas.Str.{encodes-append, is_utf8-from_IsUtf8}
use Rattle.std.proofs.lemmas.Slice.Eq.{bytes_eq-Decides}
use Rattle.std.proofs.lemmas.List.{take_more, length-append, append-nil, take-append-drop}
use Rattle.amr_labels.specs.Matcher.MatcherReading.{Reading, next, run, start}

pub run-append : (r : Option Reading) (xs ys : List ℕ) → run r (xs ++ ys) ≡ run (run r xs) ys
run-append r [] ys = refl
run-append r (x ∷ xs) ys = run-append (option_and_then (λ now. next now x) r) xs ys

pub run-none : (cs : List ℕ) → run None cs ≡ None
run-none [] = refl
run-none (c ∷ cs) = run-none cs

-- the machine after one more character
pub run_more : (cs : List ℕ) (n c : ℕ) (r : Reading) → n < length cs → c ≡ get_or cs n c → run (Some start) (take n cs) ≡ Some r → run (Some start) (take (n + 1) cs) ≡ next r c
run_more cs n c r lt is h = rw (take_more cs n c lt, ← is, run-append, h) refl

-- the prefixes of a text are no longer than it
pub encoded_front : (cs : List ℕ) (n : ℕ) → length (encode_utf8_all (take n cs)) ≤ length (encode_utf8_all cs)
encoded_front cs n =
    grind (arith, take-append-drop n cs, encodes-append (take n cs) (drop n cs), length-append (encode_utf8_all (take n cs)) (encode_utf8_all (drop n cs)))

pub encoded_more : (cs : List ℕ) (n c : ℕ) → n < length cs → c ≡ get_or cs n c → length (encode_utf8_all (take (n + 1) cs)) ≡ length (encode_utf8_all (take n cs)) + length (encode_utf8 c)
encoded_more cs n c lt is = rw (take_more cs n c lt, ← is, encodes-append, length-append, append-nil) refl

pub encoded : (bs : List ℕ) → IsUtf8 bs → encode_utf8_all (chars bs) ≡ bs
unfolding is_utf8
encoded bs h = (bytes_eq-Decides (encode_utf8_all (chars bs)) bs).0 (and_parts (all_scalars (chars bs)) (bytes_eq (encode_utf8_all (chars bs)) bs) (is_utf8-from_IsUtf8 bs h)).1
