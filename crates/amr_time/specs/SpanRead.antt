-- Durations as texts: whole numbers with their units, from the largest unit to the smallest, each
-- at most once.
use Rattle.std.specs.Prelude.{◌≡◌, ℕ, ◌+◌, min, ◌*◌, ◌&&◌, ◌==◌, List, [], ◌∷◌, length, drop, Bool, not, nat_le, if◌then◌else◌, Option, Some, None, option_map, codes}
use Rattle.std.specs.List.{take_while}
use Rattle.std.specs.Str.{bytes_eq}
use Rattle.amr_time.specs.Time.{Span, millisecond, second, minute, hour, full_day, longest_span}
use Rattle.amr_time.specs.MomentText.{decimal}
use Rattle.amr_time.specs.MomentRead.{is_digit, digits_of}

-- a unit: its letters and its length
abbrev pub UnitOfTime : Type 0
UnitOfTime = List ℕ × Span

abbrev pub units : List UnitOfTime
units =
    (codes "y", 365 * full_day) ∷ (codes "w", 7 * full_day) ∷ (codes "d", full_day) ∷ (codes "h", hour)
    ∷ (codes "m", minute) ∷ (codes "s", second) ∷ (codes "ms", millisecond) ∷ []

-- the letters before the next digit
abbrev pub word_of : List ℕ → List ℕ
word_of text = take_while (λ c. not (is_digit c)) text

abbrev pub after_digits : List ℕ → List ℕ
after_digits text = drop (length (digits_of text)) text

abbrev pub after_word : List ℕ → List ℕ
after_word text = drop (length (word_of text)) text

-- the text begins with a number and the letters of the unit
abbrev pub has_unit : UnitOfTime → List ℕ → Bool
has_unit unit text = nat_le 1 (length (digits_of text)) && bytes_eq (word_of (after_digits text)) unit.0

-- the nanoseconds of a text of these units, each at most once and in this order
unfoldable pub parts_at : List UnitOfTime → List ℕ → Option ℕ
parts_at [] [] = Some 0
parts_at [] (c ∷ cs) = None
parts_at (unit ∷ smaller) text = if has_unit unit text then option_map (λ n. decimal (digits_of text) * unit.1 + n) (parts_at smaller (after_word (after_digits text))) else parts_at smaller text

-- the duration, if there is one and it isn't longer than the longest
abbrev pub limited : Option ℕ → Option Span
limited None = None
limited (Some n) = if nat_le n longest_span then Some n else None

-- `0`, or a text of units that isn't empty, up to ten years
unfoldable pub span_of : List ℕ → Option Span
span_of text = if bytes_eq text (codes "0") then Some 0 else (if length text == 0 then None else limited (parts_at units text))

-- the same number, or both longer than the longest duration
abbrev pub SameOrTooLong : Option ℕ → Option ℕ → Type 0
SameOrTooLong a b = option_map (min (longest_span + 1)) a ≡ option_map (min (longest_span + 1)) b
