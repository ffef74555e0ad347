use Rattle.std.proofs.Common.{refl}
use Rattle.amr_labels.specs.Map.{remove}
use Rattle.amr_engine.proofs.CachedQuiet.{no_rules, true_alike, unmuted}
use Rattle.amr_engine.proofs.quiet.QuietGroups.alert_leaves.Goals as goal

pub returns-then-not-is_empty : goal.returns-then-not-is_empty
returns-then-not-is_empty c =
    let s = c.args.store.now.state in
    let left = remove s.alerts c.args.labels.now in
    c.forget_muting.ensures s (record s { alerts = left }) refl (unmuted c.args.self.now s left s.silences) c.requires

pub returns-else-not-is_empty : goal.returns-else-not-is_empty
returns-else-not-is_empty c =
    true_alike c.args.store.now.state (remove c.args.store.now.state.alerts c.args.labels.now)
    (no_rules c.args.store.now.state.config c.config.result.now c.rules.result.now c.is_empty.result c.config.ensures c.rules.ensures c.is_empty.ensures c.if-not-is_empty.false)
    c.args.self.now c.requires
