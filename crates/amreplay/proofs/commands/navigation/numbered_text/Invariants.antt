use Rattle.std.proofs.Common.{◌≡◌, ◌+◌, take, drop, map, string_bytes}
use Rattle.amr_engine.specs.Outcomes.{outcome_view}
use Rattle.amreplay.specs.Commands.Replies.{numbered_lines}
use Rattle.amreplay.proofs.commands.navigation.numbered_text.Given as goal

abbrev pub invariant-loop-outcome : goal.invariant-loop-outcome
invariant-loop-outcome l =
    (l.index ≡ l.passed + l.outcome-index)
    × (string_bytes l.text ≡ numbered_lines (l.passed + 1) (drop l.passed l.session.events) (map outcome_view (take l.outcome-index l.outcomes)))
