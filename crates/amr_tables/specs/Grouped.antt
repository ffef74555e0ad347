-- Numbers in groups.
use Rattle.std.specs.Prelude.{◌≡◌, ◌==◌, ℕ, Bool, List, Some, IsTrue, slice_get}
use Rattle.std.specs.List.{list_any, IsDistinct}
use Rattle.amr_tables.specs.Places.{is_marked}

-- The group that each number belongs to, which numbers are in theirs, and which groups have room for
-- one more number.
pub record Grouped : Type 0 where
  pub homes : List ℕ
  pub present : List Bool
  pub rooms : List Bool

-- the number is in this group
abbrev pub IsIn : Grouped → ℕ → ℕ → Type 0
IsIn g n group = (slice_get g.homes n ≡ Some group) × IsTrue (is_marked g.present n)

-- the list has the numbers that are in the group, each once
pub record AreNumbersOf (g : Grouped) (group : ℕ) (numbers : List ℕ) : Type 0 where
  pub distinct : IsDistinct (λ (a b : ℕ). a == b) numbers
  pub members : (n : ℕ) → IsTrue (list_any (λ m. n == m) numbers) → IsIn g n group
  pub all : (n : ℕ) → IsIn g n group → IsTrue (list_any (λ m. n == m) numbers)
