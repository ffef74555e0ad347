use Rattle.std.proofs.Common.{◌≡◌, take, reverse, map, not}
use Rattle.std.specs.List.{filter}
use Rattle.amr_labels.specs.Set as set
use Rattle.amr_rules.specs.Alerts.{is_resolved_at}
use Rattle.amr_rules.proofs.dedup.LogEntry.of_alerts.Given as goal

-- the labels of the alerts so far
abbrev pub invariant-loop-labels : goal.invariant-loop-labels
invariant-loop-labels l = record {
  firing : l.firing ≡ set.from_list (reverse (map (λ alert. alert.0) (filter (λ alert. not (is_resolved_at l.time alert.1)) (take l.labels-index l.alerts))));
  resolved : l.resolved ≡ set.from_list (reverse (map (λ alert. alert.0) (filter (λ alert. is_resolved_at l.time alert.1) (take l.labels-index l.alerts))));
}
