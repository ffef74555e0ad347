use Rattle.std.proofs.Common.{◌≡◌, map, ◌++◌, drop}
use Rattle.amr_config.specs.Groups.{groups_of, group_at}
use Rattle.amr_config.proofs.router.groups_of.Given as goal

abbrev pub invariant-loop-route : goal.invariant-loop-route
invariant-loop-route l =
    l.groups ++ map (group_at l.config l.labels) (drop l.route-index l.route-items) ≡ groups_of l.config l.labels
