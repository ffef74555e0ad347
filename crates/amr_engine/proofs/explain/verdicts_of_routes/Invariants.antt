use Rattle.std.proofs.Common.{flat_map, ◌≡◌, ◌++◌, drop}
use Rattle.amr_config.specs.Routing.{chosen_routes}
use Rattle.amr_engine.specs.Explain.{verdicts_at}
use Rattle.amr_engine.proofs.explain.verdicts_of_routes.Given as goal

-- the verdicts so far, and those for the routes that are left, are all
abbrev pub invariant-loop-route : goal.invariant-loop-route
invariant-loop-route l =
    l.found.items ++ flat_map (verdicts_at l.store.state l.labels) (drop l.route-index l.route-items)
    ≡ flat_map (verdicts_at l.store.state l.labels) (chosen_routes l.store.state.config l.labels)
