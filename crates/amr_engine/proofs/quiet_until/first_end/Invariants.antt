use Rattle.std.proofs.Common.{◌≡◌, ℕ, ◌≤◌, true, drop}
use Rattle.amr_engine.specs.Quiet.{all_fire_until}
use Rattle.amr_engine.proofs.quiet_until.first_end.Given as goal

-- those so far fire until the end that was found
abbrev pub invariant-loop-alert : goal.invariant-loop-alert
invariant-loop-alert l = record {
  within : l.until ≤ l.fn.until;
  fire : (end : ℕ) → end ≤ l.until → all_fire_until end (drop l.alert-index l.members) ≡ true → all_fire_until end l.members ≡ true;
}
