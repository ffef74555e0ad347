use Rattle.std.proofs.Common.{◌≡◌, ◌++◌, Some, map, drop}
use Rattle.amr_engine.specs.Explain.{verdict_at, verdicts_of_group}
use Rattle.amr_engine.proofs.explain.add_verdicts_of_group.Given as goal

-- the verdicts so far, and those for the integrations that are left, are all
abbrev pub invariant-loop-integration : goal.invariant-loop-integration
invariant-loop-integration l =
    l.found.items ++ map (verdict_at l.store.state l.group l.labels l.timer) (map Some (drop l.integration-index l.integrations))
    ≡ l.fn.found.items ++ verdicts_of_group l.store.state l.group l.labels l.timer
