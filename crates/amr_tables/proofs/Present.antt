-- Which numbers are in their groups, as rows change.
use Rattle.std.proofs.Common.{◌≡◌, ℕ, not, ◌+◌, ◌-◌, ◌<◌, cond, Bool, false, Some, List, [], ◌∷◌, ◌++◌, length, get_or, map, slice_set, take, ◌∙◌, arith, length-append}
use Rattle.std.specs.Prelude.{◌==◌, nat_lt, slice_get}
use Rattle.std.proofs.lemmas.Bool.Decides.{nat_tests}
use Rattle.std.proofs.lemmas.Grind.{get_or-set_at}
use Rattle.std.proofs.lemmas.Option.{gets, slice_get-map, slice_get-get_or, slice_get_past, slice_get_within}
use Rattle.std.proofs.lemmas.List.{map-append, length_push, get_or_push, get_or_append_left, length-set, get_or-set_other, length-take-le, get_or-take}
use Rattle.std.proofs.lemmas.List.Folds.{Any-from_list_any, list_any_at}
use Rattle.std.proofs.lemmas.Map.Keys.{IsDistinct-from_apart}
use Rattle.std.specs.Bool.{beq}
use mir.Val.{bool_byte}
use Rattle.amr_tables.specs.Places.{is_marked}
use Rattle.amr_tables.specs.declared.grouped.Seat.{Seat}
use Rattle.amr_tables.specs.declared.grouped.Row.{Row}
use Rattle.amr_tables.specs.Grouped.{Grouped, AreNumbersOf}
use Rattle.amr_tables.specs.Seats.{home_at, position_at, number_at, count_at, is_seated_in, IsSeating}

-- ---- lists

pub get_push : {X : Type 0} (xs : List X) (x : X) (k : ℕ) → slice_get (xs ++ x ∷ []) k ≡ cond (k == length xs) (Some x) (slice_get xs k)
get_push xs x k = grind (arith, nat_tests, slice_get-get_or (xs ++ x ∷ []) k x, slice_get-get_or xs k x, slice_get_past (xs ++ x ∷ []) k, slice_get_past xs k, length_push xs x, get_or_push xs x x k, get_or_append_left xs (x ∷ []) x k)

-- one more place that isn't marked
pub marked_push : (marks : List Bool) (n : ℕ) → is_marked (marks ++ false ∷ []) n ≡ is_marked marks n
marked_push marks n = grind (arith, nat_tests, get_push marks false n, slice_get_past marks n)

pub get_set : {X : Type 0} (xs : List X) (n : ℕ) (x : X) → n < length xs → (k : ℕ) → slice_get (slice_set xs n x) k ≡ cond (k == n) (Some x) (slice_get xs k)
get_set xs n x h k = grind (arith, nat_tests, slice_get-get_or (slice_set xs n x) k x, slice_get-get_or xs k x, slice_get_past (slice_set xs n x) k, slice_get_past xs k, length-set xs n x, get_or-set_at xs n k x x, get_or-set_other xs n k x x, h)

-- ---- rows that change, with the same numbers in them

pub present_same : (seats : List Seat) (rows next : List Row) → ((g : ℕ) → count_at next g ≡ count_at rows g) → map (is_seated_in next) seats ≡ map (is_seated_in rows) seats
present_same seats rows next counts i = map (λ (seat : Seat). nat_lt seat.position (counts seat.group i)) seats

-- a group more, without numbers
module _ (rows : List Row) (row : Row) (none : row.numbers.items ≡ []) (zero_count : row.count ≡ 0) where
  pub count_more : (g : ℕ) → count_at (rows ++ row ∷ []) g ≡ count_at rows g
  count_more g = grind (arith, nat_tests, get_push rows row g, slice_get_past rows g, zero_count)

  pub seating_more : {seats : List Seat} → IsSeating seats rows → IsSeating seats (rows ++ row ∷ [])
  seating_more {seats} is = record {
    seated = record {
      there = λ k h e. grind (arith, nat_tests, is.seated.there k h, get_push rows row h, slice_get_past rows h, e);
      homed = λ h i k e. grind (arith, nat_tests, is.seated.homed h i k, get_push rows row h, slice_get_past rows h, none, e);
      placed = λ h i k e. grind (arith, nat_tests, is.seated.placed h i k, get_push rows row h, slice_get_past rows h, none, e);
    };
    counted = λ h r e. grind (arith, nat_tests, is.counted h r, get_push rows row h, zero_count, e);
  }

module _ (rows : List Row) (g : ℕ) {row : Row} (changed : Row) (found : slice_get rows g ≡ Some row) where
  pub set_row : (h : ℕ) → slice_get (slice_set rows g changed) h ≡ cond (h == g) (Some changed) (slice_get rows h)
  set_row = get_set rows g changed (slice_get_within rows g row found)

  pub count_kept : changed.count ≡ row.count → (h : ℕ) → count_at (slice_set rows g changed) h ≡ count_at rows h
  count_kept same h = grind (arith, nat_tests, set_row h, found, same)

  -- a row in which the same numbers stand
  pub seating_kept : {seats : List Seat} → changed.numbers.items ≡ row.numbers.items → changed.count ≡ row.count → IsSeating seats rows → IsSeating seats (slice_set rows g changed)
  seating_kept {seats} items count is = record {
    seated = record {
      there = λ k h e. grind (arith, nat_tests, is.seated.there k h, set_row h, found, items, e);
      homed = λ h i k e. grind (arith, nat_tests, is.seated.homed h i k, set_row h, found, items, e);
      placed = λ h i k e. grind (arith, nat_tests, is.seated.placed h i k, set_row h, found, items, e);
    };
    counted = λ h r e. grind (arith, nat_tests, is.counted h r, is.counted g row, set_row h, found, items, count, e);
  }

-- ---- the next number

module _ {seats : List Seat} {rows : List Row} (is : IsSeating seats rows) (g : ℕ) {n p : ℕ} {row : Row} (changed : Row) (found : slice_get rows g ≡ Some row)
    (n_is : n ≡ length seats) (p_is : p ≡ length row.numbers.items) (numbers : changed.numbers.items ≡ row.numbers.items ++ n ∷ []) (count : changed.count ≡ row.count) where
  abbrev seat : Seat
  seat = record { group = g; position = p }

  number_after : (h i : ℕ) → number_at (slice_set rows g changed) h i ≡ cond (h == g) (cond (i == p) (Some n) (number_at rows h i)) (number_at rows h i)
  number_after h i = grind (arith, nat_tests, set_row rows g changed found h, found, numbers, p_is, get_push row.numbers.items n i)

  pub seating_next : IsSeating (seats ++ seat ∷ []) (slice_set rows g changed)
  seating_next = record {
    seated = record {
      there = λ k h e. grind (arith, nat_tests, is.seated.there k h, get_push seats seat k, number_after h (position_at (seats ++ seat ∷ []) k), slice_get_past row.numbers.items p, found, n_is, p_is, e);
      homed = λ h i k e. grind (arith, nat_tests, is.seated.homed h i k, get_push seats seat k, number_after h i, slice_get_past seats k, n_is, e);
      placed = λ h i k e. grind (arith, nat_tests, is.seated.homed h i k, is.seated.placed h i k, get_push seats seat k, number_after h i, slice_get_past seats k, n_is, e);
    };
    counted = λ h r e. grind (arith, nat_tests, is.counted h r, is.counted g row, set_row rows g changed found h, found, numbers, length-append row.numbers.items (n ∷ []), count, e);
  }

  -- it isn't in its group
  pub present_next : map (is_seated_in (slice_set rows g changed)) (seats ++ seat ∷ []) ≡ map (is_seated_in rows) seats ++ false ∷ []
  present_next =
      let absent : is_seated_in (slice_set rows g changed) seat ≡ false = grind (arith, nat_tests, is.counted g row found, set_row rows g changed found g, count, p_is) in
      map-append (is_seated_in (slice_set rows g changed)) seats (seat ∷ [])
      ∙ (λ i. present_same seats rows (slice_set rows g changed) (count_kept rows g changed found count) i ++ absent i ∷ [])

-- ---- the numbers that are in a group

-- those in front of a row are the numbers in the group
module _ (g : Grouped) {seats : List Seat} {rows : List Row} (is : IsSeating seats rows) (group : ℕ) {row : Row} (found : slice_get rows group ≡ Some row)
    (homes : map (λ (s : Seat). s.group) seats ≡ g.homes) (present : map (is_seated_in rows) seats ≡ g.present) where
  abbrev front : List ℕ
  front = take row.count row.numbers.items

  read : (i d : ℕ) → i < length front → (number_at rows group i ≡ Some (get_or front i d)) × (i < row.count)
  read i d within = grind (arith, gets, length-take-le row.count row.numbers.items, get_or-take row.count row.numbers.items i d, is.counted group row found, found, within)

  pub front_are : AreNumbersOf g group front
  front_are = record {
    distinct = IsDistinct-from_apart (λ (a b : ℕ). a == b) front (λ i j d less within.
        let here = read i d (omega arith) in
        grind (arith, nat_tests, here, read j d within, is.seated.placed group i (get_or front i d), is.seated.placed group j (get_or front j d), less));
    members = λ n h.
        let there = Any-from_list_any (λ m. n == m) front h in
        let standing = read there.0 there.1 there.2 in (
          grind (arith, nat_tests, standing, there.3, there.4, is.seated.homed group there.0 n, slice_get-map (λ (s : Seat). s.group) seats n, homes),
          grind (arith, nat_tests, standing, there.3, there.4, is.seated.homed group there.0 n, is.seated.placed group there.0 n, slice_get-map (is_seated_in rows) seats n, present, found),
        );
    all = λ n is_in.
        let home : home_at seats n ≡ Some group = grind (arith, slice_get-map (λ (s : Seat). s.group) seats n, homes, is_in.0) in
        let within : position_at seats n < length front = grind (arith, nat_tests, home, slice_get-map (is_seated_in rows) seats n, present, found, is.counted group row found, length-take-le row.count row.numbers.items, is_in.1) in
        list_any_at (λ m. n == m) front (position_at seats n) n within (grind (arith, nat_tests, read (position_at seats n) n within, is.seated.there n group home));
  }

-- A number changes places with the one at the edge of its group, as read, and the edge moves past it.
-- Then it is in the group or not, as asked, and each other one as it was.
module _ {seats : List Seat} {rows : List Row} (is : IsSeating seats rows) (n : ℕ) {m back on : ℕ} {seat other : Seat} {row : Row} (is_in : Bool) (changed : Row)
    (at : slice_get seats n ≡ Some seat) (found : slice_get rows seat.group ≡ Some row) (apart : beq (nat_lt seat.position row.count) is_in ≡ false)
    (back_is : back ≡ bool_byte (not is_in)) (on_is : on ≡ bool_byte is_in) (read : m ≡ get_or row.numbers.items (row.count - back) m) (read_other : other ≡ get_or seats m other)
    (items : changed.numbers.items ≡ slice_set (slice_set row.numbers.items seat.position m) (row.count - back) n) (count : changed.count ≡ row.count - back + on) where
  abbrev next : List Row
  next = slice_set rows seat.group changed

  abbrev first : List Seat
  first = slice_set seats m (record { group = other.group; position = seat.position })

  own : number_at rows seat.group seat.position ≡ Some n
  own = grind (arith, is.seated.there n seat.group, at)

  there : slice_get row.numbers.items (row.count - back) ≡ Some m
  there = grind (arith, nat_tests, gets, own, found, is.counted seat.group row found, apart, back_is, on_is, read)

  other_own : (slice_get seats m ≡ Some other) × ((other.group ≡ seat.group) × (other.position ≡ row.count - back))
  other_own = grind (arith, gets, is.seated.homed seat.group (row.count - back) m, is.seated.placed seat.group (row.count - back) m, found, there, read_other)

  numbers_after : (h i : ℕ) → number_at next h i ≡ cond (h == seat.group) (cond (i == row.count - back) (Some n) (cond (i == seat.position) (Some m) (number_at rows h i))) (number_at rows h i)
  numbers_after h i = grind (arith, nat_tests, set_row rows seat.group changed found h, get_set row.numbers.items seat.position m, get_set (slice_set row.numbers.items seat.position m) (row.count - back) n, length-set row.numbers.items seat.position m, slice_get_within row.numbers.items (row.count - back) m there, slice_get_within row.numbers.items seat.position n, own, found, items)

  module _ {again : Seat} (read_again : again ≡ get_or first n again) where
    abbrev after : List Seat
    after = slice_set first n (record { group = again.group; position = row.count - back })

    seats_after : (k : ℕ) → slice_get after k ≡ cond (k == n) (Some (record { group = seat.group; position = row.count - back })) (cond (k == m) (Some (record { group = seat.group; position = seat.position })) (slice_get seats k))
    seats_after k = grind (arith, nat_tests, gets, get_set seats m (record { group = other.group; position = seat.position }), get_set first n (record { group = again.group; position = row.count - back }), length-set seats m (record { group = other.group; position = seat.position }), slice_get_within seats n seat at, slice_get_within seats m other, at, other_own, read_again)

    pub seating_after : IsSeating after next
    seating_after = record {
      seated = record {
        there = λ k h e. grind (arith, nat_tests, own, other_own, is.seated.there k h, seats_after k, numbers_after h (position_at after k), e, at, found, there);
        homed = λ h i k e. grind (arith, nat_tests, own, other_own, is.seated.homed h i k, seats_after k, numbers_after h i, e, at, found, there);
        placed = λ h i k e. grind (arith, nat_tests, own, other_own, is.seated.homed h i k, is.seated.placed h i k, seats_after k, numbers_after h i, e, at, found, there);
      };
      counted = λ h r e. grind (arith, nat_tests, set_row rows seat.group changed found h, is.counted h r, is.counted seat.group row found, length-set row.numbers.items seat.position m, length-set (slice_set row.numbers.items seat.position m) (row.count - back) n, slice_get_within row.numbers.items (row.count - back) m there, e, items, count, back_is, on_is);
    }

    pub present_after : (k : ℕ) → is_marked (map (is_seated_in next) after) k ≡ cond (k == n) is_in (is_marked (map (is_seated_in rows) seats) k)
    present_after k = grind (arith, nat_tests, slice_get-map (is_seated_in next) after k, slice_get-map (is_seated_in rows) seats k, seats_after k, set_row rows seat.group changed found, is.seated.there k, own, other_own, at, found, there, apart, back_is, on_is, count)
