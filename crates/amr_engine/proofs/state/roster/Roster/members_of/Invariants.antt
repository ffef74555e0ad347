use Rattle.std.proofs.Common.{filter_map, ◌≡◌, ◌++◌, drop}
use Rattle.amr_engine.specs.State.Rostered.{member_at}
use Rattle.amr_engine.proofs.state.roster.Roster.members_of.Given as goal

-- what was found so far, and what is left to find, are all
abbrev pub invariant-loop-member : goal.invariant-loop-member
invariant-loop-member l =
    l.found.items ++ filter_map (member_at l.self.placements) (drop l.member-index l.numbers)
    ≡ filter_map (member_at l.self.placements) l.numbers
