use Rattle.std.proofs.Common.{fold, filter_map, ◌≡◌, ◌≤◌, ◌+◌, ◌++◌, drop, length}
use Rattle.amr_rules.specs.Alerts.{completed_alert}
use Rattle.amr_engine.specs.CachedQuiet.{IsTrueOf}
use Rattle.amr_engine.specs.Events.{put, skipped_from}
use Rattle.amr_engine.specs.State.Kept.{before_open_record}
use Rattle.amr_engine.specs.Weight.{alerts_weight}
use Rattle.amr_engine.proofs.post.put_all.Given as goal

-- storing those so far and then those that are left is storing all
abbrev pub invariant-loop-index : goal.invariant-loop-index
invariant-loop-index l = record {
  ok : fold put l.store.state (filter_map (completed_alert l.now l.timeout) (drop l.index l.posted)) ≡ fold put l.fn.store.state (filter_map (completed_alert l.now l.timeout) l.posted);
  skipped : l.skipped ++ skipped_from (l.index + 1) l.now l.timeout (drop l.index l.posted) ≡ skipped_from 1 l.now l.timeout l.posted;
  kept : before_open_record l.store ≡ before_open_record l.fn.store;
  cache : IsTrueOf l.quiet_groups l.store.state;
  config : l.store.state.config ≡ l.fn.store.state.config;
  grown : length l.store.current + alerts_weight l.fn.store.state.config (filter_map (completed_alert l.now l.timeout) (drop l.index l.posted)) ≤ length l.fn.store.current + alerts_weight l.fn.store.state.config (filter_map (completed_alert l.now l.timeout) l.posted);
}
