-- The parts of a command line: a word, white space, and an argument.
use Rattle.std.specs.Prelude.{ℕ, ◌+◌, ◌-◌, ◌*◌, ◌^◌, min, Bool, ◌&&◌, nat_le, List, length, take, drop, fold}
use Rattle.std.specs.List.{prefix_len, suffix_len, position_or_len, before_first}
use Rattle.amr_events.specs.Scripts.{is_space}

abbrev pub trimmed_front : List ℕ → List ℕ
trimmed_front text = drop (prefix_len is_space text) text

abbrev pub trimmed_back : List ℕ → List ℕ
trimmed_back text = take (length text - suffix_len is_space text) text

-- white space at both ends is dropped
abbrev pub without_outer_space : List ℕ → List ℕ
without_outer_space line = trimmed_back (trimmed_front line)

abbrev pub word_in : List ℕ → List ℕ
word_in text = before_first is_space text

abbrev pub argument_in : List ℕ → List ℕ
argument_in text = trimmed_front (drop (position_or_len is_space text) text)

abbrev pub is_digit : ℕ → Bool
is_digit byte = nat_le 48 byte && nat_le byte 57

-- the number that digits spell
abbrev pub number_of : List ℕ → ℕ
number_of digits = fold (λ n digit. n * 10 + (digit - 48)) 0 digits

-- the same if it has no more than 64 bits, and otherwise the greatest that has
abbrev pub number_within : List ℕ → ℕ
number_within digits = min (number_of digits) (2 ^ 64 - 1)
