-- Whether bytes are UTF-8, as a test.
use Rattle.std.proofs.Common.{◌≡◌, ℕ, true, false, List}
use Rattle.std.specs.Str.{IsUtf8, is_utf8}
use Rattle.std.proofs.lemmas.Bool.{false_from_ne_true}
use Rattle.std.proofs.lemmas.Str.{IsUtf8-from_is_utf8, is_utf8-from_IsUtf8}

pub is_text : (bytes : List ℕ) → IsUtf8 bytes → is_utf8 bytes ≡ true
is_text bytes h = is_utf8-from_IsUtf8 bytes h

pub is_no_text : (bytes : List ℕ) → (IsUtf8 bytes → ⊥) → is_utf8 bytes ≡ false
is_no_text bytes h = false_from_ne_true (is_utf8 bytes) (λ yes. h (IsUtf8-from_is_utf8 bytes yes))
