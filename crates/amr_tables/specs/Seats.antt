-- Where the numbers of a group stand in its row: those that are in the group in front.
use Rattle.std.specs.Prelude.{◌≡◌, ◌&&◌, ℕ, ◌≤◌, Bool, List, Option, Some, length, nat_lt, slice_get, option_map, option_and_then}
use Rattle.std.specs.Option.{option_map_or}
use Rattle.std.specs.Vec.{vec_len, vec_capacity}
use Rattle.amr_tables.specs.declared.grouped.Seat.{Seat}
use Rattle.amr_tables.specs.declared.grouped.Row.{Row}

-- the number at a position of a group
abbrev pub number_at : List Row → ℕ → ℕ → Option ℕ
number_at rows group position = option_and_then (λ (row : Row). slice_get row.numbers.items position) (slice_get rows group)

-- how many numbers are in a group
abbrev pub count_at : List Row → ℕ → ℕ
count_at rows group = option_map_or (λ (row : Row). row.count) (slice_get rows group) 0

-- the group that a number belongs to
abbrev pub home_at : List Seat → ℕ → Option ℕ
home_at seats n = option_map (λ (seat : Seat). seat.group) (slice_get seats n)

-- the position of a number in its group
abbrev pub position_at : List Seat → ℕ → ℕ
position_at seats n = option_map_or (λ (seat : Seat). seat.position) (slice_get seats n) 0

-- the number with this seat is in its group
abbrev pub is_seated_in : List Row → Seat → Bool
is_seated_in rows seat = nat_lt seat.position (count_at rows seat.group)

-- there is room for one more number in this group, if there is for one more seat
abbrev pub has_room : Bool → Row → Bool
has_room seat row = seat && nat_lt (vec_len row.numbers) (vec_capacity row.numbers)

-- Each number is at its position of its group, and no number is at another.
pub record Seated (home : ℕ → Option ℕ) (position : ℕ → ℕ) (at : ℕ → ℕ → Option ℕ) : Type 0 where
  pub there : (n g : ℕ) → home n ≡ Some g → at g (position n) ≡ Some n
  pub homed : (g i n : ℕ) → at g i ≡ Some n → home n ≡ Some g
  pub placed : (g i n : ℕ) → at g i ≡ Some n → position n ≡ i

-- and no group has more numbers in it than belong to it
pub record IsSeating (seats : List Seat) (rows : List Row) : Type 0 where
  pub seated : Seated (home_at seats) (position_at seats) (number_at rows)
  pub counted : (g : ℕ) (row : Row) → slice_get rows g ≡ Some row → row.count ≤ length row.numbers.items
