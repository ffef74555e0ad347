use Rattle.std.proofs.Common.{fold, ◌≡◌, ◌*◌, drop}
use Rattle.amr_engine.specs.State.Kept.{GrownBy, before_open_record}
use Rattle.amr_engine.specs.Flush.{notify_if_due}
use Rattle.amr_engine.proofs.flush.notify_integrations.Given as goal

-- the integrations so far and then those that are left lead to the same state as all
abbrev pub invariant-loop-integration : goal.invariant-loop-integration
invariant-loop-integration l = record {
  ok : fold (notify_if_due l.at l.group l.through) l.store.state (drop l.integration-index l.integration-items) ≡ fold (notify_if_due l.at l.group l.through) l.fn.store.state l.integration-items;
  kept : before_open_record l.store ≡ before_open_record l.fn.store;
  grown : GrownBy (2 * l.integration-index) l.fn.store l.store;
}
