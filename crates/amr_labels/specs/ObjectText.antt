-- The text of a label set as an object, `{"name":"value","name":"value"}`. A label set has one if
-- all of its names and values can stand between quotes as they are.
use Rattle.std.specs.Prelude.{ℕ, Bool, not, ◌||◌, ◌&&◌, ◌==◌, List, ◌++◌, Option, Some, None, codes, nat_lt, if◌then◌else◌}
use Rattle.std.specs.List.{list_all, join_by}
use Rattle.amr_labels.specs.Map.{entries}
use Rattle.amr_labels.specs.Labels.{Text, LabelSet}

-- a byte that is no quote, no backslash and no control character
abbrev pub is_plain : ℕ → Bool
is_plain byte = not ((byte == 34) || (byte == 92) || nat_lt byte 32)

-- a text of such bytes alone
abbrev pub is_plain_text : Text → Bool
is_plain_text text = list_all is_plain text

abbrev pub is_plain_label : Text × Text → Bool
is_plain_label label = is_plain_text label.0 && is_plain_text label.1

abbrev pub are_plain : List (Text × Text) → Bool
are_plain labels = list_all is_plain_label labels

-- a text between quotes
abbrev pub quoted_text : Text → Text
quoted_text text = codes "\"" ++ (text ++ codes "\"")

-- a name, a colon and the value
abbrev pub member_text : Text × Text → Text
member_text label = quoted_text label.0 ++ (codes ":" ++ quoted_text label.1)

-- all members, with a comma between each two
abbrev pub members_text : List (Text × Text) → Text
members_text labels = join_by member_text (codes ",") labels

abbrev pub object_text : List (Text × Text) → Text
object_text labels = codes "{" ++ (members_text labels ++ codes "}")

abbrev pub plain_object : LabelSet → Option Text
plain_object labels = if are_plain (entries labels) then Some (object_text (entries labels)) else None
