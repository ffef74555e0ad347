-- Tables of values by key, in which each key has a number.
use Rattle.std.specs.Prelude.{◌≡◌, ◌==◌, ℕ, suc, Bool, List, [], ◌∷◌, Option, None, Some, if◌then◌else◌, is_some, option_map, ◌<◌, T, IsTrue, length, refl}
use Rattle.std.specs.Option.{option_cmp}
use Rattle.std.specs.List.{filter_map}
use Rattle.std.specs.declared.cmp.Ordering.{Ordering}
use Rattle.std.specs.Ordering.{eq_by_cmp}
use Rattle.std.specs.FinMap.{find, put, is_sorted}
use Rattle.std.specs.Borrow.{Bor}
use Rattle.std.specs.Coded.{Coded, code_by, coded×, coded_ℕ, coded_list, coded_option}
use Rattle.amr_labels.specs.Map.{Map, from_sorted, get, set}
use Rattle.amr_tables.specs.Places.{value_at}

-- The number of each key, in the order of the keys, and the value at each place.
pub record Numbered (K V : Type 0) : Type 0 where
  pub numbers : List (K × ℕ)
  pub cells : List (Option V)

abbrev pub numbered_code : {K V : Type 0} → Coded K → Coded V → Coded (Numbered K V)
numbered_code {K} {V} k v =
    code_by (List (K × ℕ) × List (Option V)) (coded× (coded_list (coded× k coded_ℕ)) (coded_list (coded_option v)))
    (λ t. (t.numbers, t.cells))
    (λ p. record { numbers = p.0; cells = p.1 })
    (λ _. refl)

-- The number of each key, in the order of the keys, and how many more keys there is room for.
pub record Numbering (K : Type 0) : Type 0 where
  pub list : List (K × ℕ)
  pub room : ℕ

abbrev pub numbering_code : {K : Type 0} → Coded K → Coded (Numbering K)
numbering_code {K} k =
    code_by (List (K × ℕ) × ℕ) (coded× (coded_list (coded× k coded_ℕ)) coded_ℕ) (λ n. (n.list, n.room)) (λ p. record { list = p.0; room = p.1 }) (λ _. refl)

-- the keys of a list in their order, the first of the list with this number, and each further one
-- with the next
abbrev pub numbered_from : {K : Type 0} → (K → K → Ordering) → ℕ → List K → List (K × ℕ)
numbered_from R n [] = []
numbered_from R n (key ∷ keys) = put R key n (numbered_from R (suc n) keys)

-- the key with a number, in a list of keys with their numbers
abbrev pub key_with : {K : Type 0} → List (K × ℕ) → ℕ → Option K
key_with [] n = None
key_with (key ∷ keys) n = if key.1 == n then Some key.0 else key_with keys n

-- the key that is borrowed, with its number
abbrev pub numbered_key : {K : Type 0} → Bor K × ℕ → K × ℕ
numbered_key key = (key.0.now, key.1)

module _ {K V : Type 0} where
  -- the key with its value, if it has one
  abbrev pub entry_at : List (Option V) → K × ℕ → Option (K × V)
  entry_at cells key = option_map (λ value. (key.0, value)) (value_at cells key.1)

  -- the key with a number
  abbrev pub key_at : Numbered K V → ℕ → Option K
  key_at t n = key_with t.numbers n

  -- the number that the next new key gets
  abbrev pub next_number : Numbered K V → ℕ
  next_number t = length t.cells

  module _ (R : K → K → Ordering) where
    -- the order of the keys with two numbers; a number without a key comes before
    abbrev pub rank_of : Numbered K V → ℕ → ℕ → Ordering
    rank_of t a b = option_cmp R (key_at t a) (key_at t b)

    -- the number of a key
    abbrev pub number_of : Numbered K V → K → Option ℕ
    number_of t key = find R key t.numbers

    -- whether the key has a place
    unfoldable pub has_place : Numbered K V → K → Bool
    has_place t key = is_some (number_of t key)

    -- the finite map that the table shows
    unfoldable pub map_of : Numbered K V → Map R V
    map_of t = from_sorted (filter_map (entry_at t.cells) t.numbers)

    -- no place is lost
    abbrev pub KeepsPlaces : Numbered K V → Numbered K V → Type 0
    KeepsPlaces old changed = (key : K) → IsTrue (has_place old key) → IsTrue (has_place changed key)

    -- the key gets this number, and each other key keeps its own
    abbrev pub GetsNumber : Numbered K V → Numbered K V → K → ℕ → Type 0
    GetsNumber old changed key n = (other : K) → number_of changed other ≡ (if eq_by_cmp R other key then Some n else number_of old other)

    -- the value is that of the key with this number
    abbrev pub IsValueOf : Numbered K V → ℕ → Option V → Type 0
    IsValueOf t n value = (key : K) → number_of t key ≡ Some n → value ≡ get (map_of t) key

    -- a key has this number
    abbrev pub IsNumber : Numbered K V → ℕ → Type 0
    IsNumber t n = (key : K) × (number_of t key ≡ Some n)

    -- the key with this number has the value in the second table, or none, and each other key keeps
    -- its own
    abbrev pub IsSetAt : Numbered K V → ℕ → Option V → Numbered K V → Type 0
    IsSetAt old n value changed = (key : K) → number_of old key ≡ Some n → map_of changed ≡ set (map_of old) key value

    -- the same keys have places
    abbrev pub SamePlaces : Numbered K V → Numbered K V → Type 0
    SamePlaces old changed = (key : K) → has_place changed key ≡ has_place old key

    -- The keys rise strictly, each number has a place, and no two keys share a number.
    pub record IsNumbering (t : Numbered K V) : Type 0 where
      pub sorted : T (is_sorted R t.numbers)
      pub within : (key : K) (n : ℕ) → find R key t.numbers ≡ Some n → n < length t.cells
      pub apart : (key other : K) (n : ℕ) → find R key t.numbers ≡ Some n → find R other t.numbers ≡ Some n → T (eq_by_cmp R other key)
