use Rattle.std.proofs.Common.{◌≡◌, ℕ, ◌≤◌, true}
use Rattle.std.specs.List.{list_all}
use Rattle.amr_engine.specs.Quiet.{is_outside, no_alert_ends}
use Rattle.amr_engine.proofs.quiet_until.alert_end.Given as goal

-- those so far don't end before the moment that was found
abbrev pub invariant-loop-alert : goal.invariant-loop-alert
invariant-loop-alert l = record {
  within : l.until ≤ l.fn.until;
  still : (end : ℕ) → end ≤ l.until → list_all (λ alert. is_outside l.at end alert.ends_at) l.alert-iterator ≡ true
      → no_alert_ends l.at end l.fn.store.state.alerts ≡ true;
}
