use Rattle.std.proofs.Common.{◌≡◌, map, take}
use Rattle.amr_config.specs.Alike.{routing_part}
use Rattle.amr_config.proofs.likeness.are_routes_alike.Given as goal

abbrev pub invariant-loop-index : goal.invariant-loop-index
invariant-loop-index l = map routing_part (take l.index l.routes) ≡ map routing_part (take l.index l.others)
