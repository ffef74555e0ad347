use Rattle.std.proofs.Common.{fold, ◌+◌, ◌*◌, length, drop, ap, sym, ◌∙◌}
use Rattle.amr_engine.specs.State.State.{State, insert_into_groups}
use Rattle.amr_engine.specs.Weight.{copies}
use Rattle.amr_engine.proofs.Copied.{insert_into_groups-config}
use Rattle.amr_engine.proofs.Growing.{fold_left, placed_more}
use Rattle.amr_engine.proofs.reload.insert_all.Goals as goal

pub loop-labels-preserved : goal.loop-labels-preserved
loop-labels-preserved c = record {
  ok = ap (λ (s : State). fold insert_into_groups s (drop (c.loop-labels.labels-index + 1) c.args.alerts.now)) c.in_ok-insert_into_groups.ensures.ok
      ∙ sym (fold_left insert_into_groups c.loop-labels.store.state c.args.alerts.now c.loop-labels.labels-index c.loop-labels-item.result c.loop-labels-test.true c.loop-labels-item.is) ∙ c.loop-labels.invariant.ok;
  kept = c.in_ok-insert_into_groups.ensures.kept ∙ c.loop-labels.invariant.kept;
  config = ap (λ (s : State). s.config) c.in_ok-insert_into_groups.ensures.ok ∙ insert_into_groups-config c.loop-labels.store.state c.loop-labels-item.result ∙ c.loop-labels.invariant.config;
  grown = placed_more c.args.store.now.state.config c.loop-labels.store.state.config c.args.alerts.now c.loop-labels.labels-index c.loop-labels-item.result (length c.loop-labels.store.current)
      (length c.insert_into_groups.new.store.current) (length c.args.store.now.current + 2 * copies c.args.store.now.state.config c.args.alerts.now) c.loop-labels.invariant.grown c.loop-labels-test.true
      c.loop-labels-item.is c.loop-labels.invariant.config c.insert_into_groups.ensures.grown;
}
