-- A total that is cut off above the longest duration says as much as the total.
use Rattle.std.proofs.Common.{◌≡◌, ℕ, ◌<◌, ◌≤◌, Option, Some, None, arith}
use Rattle.std.proofs.lemmas.Bool.Decides.{nat_tests}
use Rattle.amr_time.specs.SpanRead.{SameOrTooLong, limited}

pub same_some : (n : ℕ) (p : Option ℕ) → n < 315_360_000_000_000_001 → SameOrTooLong (Some n) p → Some n ≡ limited p
same_some n p lt h = grind (arith, nat_tests)

pub too_long : (n : ℕ) (p : Option ℕ) → 315_360_000_000_000_001 ≤ n → SameOrTooLong (Some n) p → None ≡ limited p
too_long n p le h = grind (arith, nat_tests)

pub same_none : (p : Option ℕ) → SameOrTooLong None p → None ≡ limited p
same_none p h = grind arith
