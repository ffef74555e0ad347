use Rattle.std.proofs.Common.{fold, ◌≡◌, ◌≤◌, ◌+◌, ◌*◌, drop, length}
use Rattle.amr_engine.specs.State.State.{insert_into_groups}
use Rattle.amr_engine.specs.State.Kept.{before_open_record}
use Rattle.amr_engine.specs.Weight.{copies}
use Rattle.amr_engine.proofs.reload.insert_all.Given as goal

-- inserting those so far and then those that are left is inserting all
abbrev pub invariant-loop-labels : goal.invariant-loop-labels
invariant-loop-labels l = record {
  ok : fold insert_into_groups l.store.state (drop l.labels-index l.alerts) ≡ fold insert_into_groups l.fn.store.state l.alerts;
  kept : before_open_record l.store ≡ before_open_record l.fn.store;
  config : l.store.state.config ≡ l.fn.store.state.config;
  grown : length l.store.current + 2 * copies l.fn.store.state.config (drop l.labels-index l.alerts) ≤ length l.fn.store.current + 2 * copies l.fn.store.state.config l.alerts;
}
