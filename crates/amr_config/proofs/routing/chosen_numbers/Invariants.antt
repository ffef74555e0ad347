use Rattle.std.proofs.Common.{◌≤◌, ◌-◌, length}
use Rattle.amr_config.specs.Standings.{AreChosenBy}
use Rattle.amr_config.proofs.routing.chosen_numbers.Given as goal

abbrev pub invariant-loop-route : goal.invariant-loop-route
invariant-loop-route l = record {
  within : l.route ≤ length l.standings;
  chosen : AreChosenBy l.config l.standings l.route l.indexes.items;
}

abbrev pub decreases-loop-route : goal.decreases-loop-route
decreases-loop-route l = length l.standings - l.route
