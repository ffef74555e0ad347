-- The header of a script, which states that it is of version 2.
use Rattle.std.specs.Prelude.{ℕ, zero, suc, ◌&&◌, ◌==◌, List, Bool, false, codes, option_and_then}
use Rattle.std.specs.Option.{option_map_or}
use Rattle.serde_json.specs.Data.{Data, Members, no_members, member}
use Rattle.serde_json.specs.Find.{get, as_number, as_object, as_u64}
use Rattle.amr_events.specs.Lines.{json_of}

abbrev pub member_count : Members → ℕ
member_count no_members = zero
member_count (member name d members) = suc (member_count members)

-- the value is an object with one member
abbrev pub has_one_member : Data → Bool
has_one_member d = option_map_or (λ members. member_count members == 1) (as_object d) false

-- the value is the integer 2
abbrev pub is_two : Data → Bool
is_two d = option_map_or (λ n. n == 2) (option_and_then as_u64 (as_number d)) false

-- the value is an object with exactly one member, `v`, which is the integer 2
unfoldable pub states_version_two : Data → Bool
states_version_two d = has_one_member d && option_map_or is_two (get (codes "v") d) false

-- the line states version 2
unfoldable pub is_header : List ℕ → Bool
is_header line = option_map_or states_version_two (json_of line) false
