use Rattle.std.proofs.Common.{◌≡◌, take, map}
use Rattle.std.specs.List.{sum_by}
use Rattle.amr_engine.specs.Outcomes.{outcome_view}
use Rattle.amreplay.specs.Commands.Replies.{moves_in}
use Rattle.amreplay.proofs.commands.navigation.sum_of_moves.Given as goal

abbrev pub invariant-loop-outcome : goal.invariant-loop-outcome
invariant-loop-outcome l = l.sum ≡ sum_by moves_in (map outcome_view (take l.outcome-index l.outcomes))
