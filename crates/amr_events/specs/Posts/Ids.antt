-- Ids of silences: the numbers of UUIDs.
use Rattle.std.specs.Prelude.{ℕ, List, Option, option_map}
use Rattle.std.specs.Int.{w128, from_be_bytes, to_be_bytes}
use Rattle.uuid.specs.Text.{parsed, hyphenated_text, lower}

-- the id that a text in one of the four forms spells
unfoldable pub id_of : List ℕ → Option ℕ
id_of text = option_map (from_be_bytes w128) (parsed text)

-- hyphenated, in lower case
unfoldable pub id_text : ℕ → List ℕ
id_text id = hyphenated_text lower (to_be_bytes w128 id)
