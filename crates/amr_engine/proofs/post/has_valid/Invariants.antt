use Rattle.std.proofs.Common.{filter_map, ◌≡◌, drop}
use Rattle.amr_rules.specs.Alerts.{completed_alert}
use Rattle.amr_engine.proofs.post.has_valid.Given as goal

-- those that are left have all that are valid
abbrev pub invariant-loop-alert : goal.invariant-loop-alert
invariant-loop-alert l = filter_map (completed_alert l.now l.timeout) (drop l.alert-index l.posted) ≡ filter_map (completed_alert l.now l.timeout) l.posted
