use Rattle.std.proofs.Common.{◌≡◌, drop}
use Rattle.std.specs.List.{list_all}
use Rattle.amr_rules.specs.Alerts.{is_resolved_at}
use Rattle.amr_engine.proofs.flush.are_resolved.Given as goal

-- what is left decides
abbrev pub invariant-loop-alert : goal.invariant-loop-alert
invariant-loop-alert l = list_all (λ member. is_resolved_at l.at member.1) l.members ≡ list_all (λ member. is_resolved_at l.at member.1) (drop l.alert-index l.members)
