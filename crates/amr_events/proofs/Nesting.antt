-- A member nests no deeper than its object.
use Rattle.std.proofs.Common.{◌≡◌, ℕ, ◌≤◌, List, Some, arith}
use Rattle.serde_json.specs.Data.{Data, Members, no_members, member, depth, members_depth}
use Rattle.serde_json.specs.Find.{get, get_member}

members_nest : (key : List ℕ) (ms : Members) (found : Data) → get_member key ms ≡ Some found → depth found ≤ members_depth ms
members_nest key no_members found is = grind arith
members_nest key (member name d ms) found is = grind (arith, members_nest key ms found)

pub member_nests : (key : List ℕ) (d found : Data) → get key d ≡ Some found → depth found ≤ depth d
member_nests key d found is = grind (arith, members_nest key)
