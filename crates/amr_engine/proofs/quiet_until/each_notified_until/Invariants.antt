use Rattle.std.proofs.Common.{◌≡◌, ℕ, ◌≤◌, true, drop}
use Rattle.std.specs.List.{list_all}
use Rattle.amr_config.specs.Routing.{integrations_of}
use Rattle.amr_engine.specs.Flush.{labels_of}
use Rattle.amr_engine.specs.Quiet.{is_notified}
use Rattle.amr_engine.proofs.quiet_until.each_notified_until.Given as goal

-- those so far were notified until the moment that was found
abbrev pub invariant-loop-integration : goal.invariant-loop-integration
invariant-loop-integration l = record {
  within : l.until ≤ l.fn.until;
  notified : (end : ℕ) → end ≤ l.until → list_all (is_notified l.store.state l.group l.at end (labels_of l.through)) (drop l.integration-index l.integration-items) ≡ true
      → list_all (is_notified l.store.state l.group l.at end (labels_of l.through)) (integrations_of l.store.state.config l.group.route) ≡ true;
}
