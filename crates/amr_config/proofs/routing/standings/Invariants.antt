use Rattle.std.proofs.Common.{◌≡◌, ◌≤◌, ◌-◌, length, vec_len}
use Rattle.amr_config.specs.Standings.{standings_at}
use Rattle.amr_config.proofs.routing.standings.Given as goal

abbrev pub invariant-loop-answers : goal.invariant-loop-answers
invariant-loop-answers l = record {
  within : vec_len l.standings ≤ length l.config.routes;
  seen : l.standings.items ≡ standings_at l.config l.labels (vec_len l.standings);
}

abbrev pub decreases-loop-answers : goal.decreases-loop-answers
decreases-loop-answers l = length l.config.routes - vec_len l.standings
