-- Marks of label values, by which most label sets are told apart from those that a silence matches.
use Rattle.std.specs.Prelude.{ℕ, ◌*◌, ◌/◌, ◌%◌, ◌^◌, List, fold, bit_or, if◌then◌else◌}
use Rattle.amr_labels.specs.Map.{entries}
use Rattle.amr_labels.specs.Labels.{Text, LabelSet, is_empty}
use Rattle.amr_labels.specs.Hashes.{text_fnv_hash}
use Rattle.amr_labels.specs.declared.matcher.Operator.{Operator}
use Rattle.amr_labels.specs.declared.matcher.Operator.TheVariants.{Equal, NotEqual, Matches, NotMatches}
use Rattle.amr_labels.specs.Matcher.Matchers.{Matcher}

-- two of 64 bits, or one
abbrev pub value_bit : Text → ℕ
value_bit value = bit_or (1 * 2 ^ (text_fnv_hash value % 64) % 2 ^ 64) (1 * 2 ^ (text_fnv_hash value / 64 % 64) % 2 ^ 64)

-- the bits of the values of these labels, all together
abbrev pub bits_among : List (Text × Text) → ℕ
bits_among labels = fold (λ bits label. bit_or bits (value_bit label.1)) 0 labels

-- the bits of the values of a label set
abbrev pub value_bits : LabelSet → ℕ
value_bits labels = bits_among (entries labels)

-- the mark of the value that `=` asks for, but for the empty value, which an absent label has too
abbrev pub bits_asked : Operator → Text → ℕ
bits_asked Equal value = if is_empty value then 0 else value_bit value
bits_asked NotEqual value = 0
bits_asked Matches value = 0
bits_asked NotMatches value = 0

abbrev pub required_bit : Matcher → ℕ
required_bit matcher = bits_asked matcher.operator matcher.value

-- the bits of the values that all these matchers ask for
abbrev pub required_bits : List Matcher → ℕ
required_bits matchers = fold (λ bits matcher. bit_or bits (required_bit matcher)) 0 matchers
