use Rattle.std.proofs.Common.{map, not}
use Rattle.std.specs.List.{filter}
use Rattle.std.proofs.lemmas.List.{take_all}
use Rattle.amr_labels.specs.Labels.{label_set_cmp_total, label_set_cmp-IsAntisymmetric}
use Rattle.amr_rules.specs.Alerts.{is_resolved_at}
use Rattle.amr_rules.proofs.Sets.{from_list-reverse}
use Rattle.amr_rules.proofs.dedup.LogEntry.of_alerts.Goals as goal

pub returns-clause-firing : goal.returns-clause-firing
returns-clause-firing c =
    rw (c.loop-labels.invariant.firing, take_all c.loop-labels.labels-index c.args.alerts.now c.loop-labels-test.false)
    (from_list-reverse label_set_cmp_total label_set_cmp-IsAntisymmetric (map (λ alert. alert.0) (filter (λ alert. not (is_resolved_at c.args.time alert.1)) c.args.alerts.now)))

pub returns-clause-resolved : goal.returns-clause-resolved
returns-clause-resolved c =
    rw (c.loop-labels.invariant.resolved, take_all c.loop-labels.labels-index c.args.alerts.now c.loop-labels-test.false)
    (from_list-reverse label_set_cmp_total label_set_cmp-IsAntisymmetric (map (λ alert. alert.0) (filter (λ alert. is_resolved_at c.args.time alert.1) c.args.alerts.now)))
