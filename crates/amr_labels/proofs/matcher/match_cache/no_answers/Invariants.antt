-- no bucket has an answer so far
use Rattle.std.specs.Prelude.{IfSome}
use Rattle.std.specs.List.{All}
use Rattle.amr_labels.specs.Matcher.Questions.{IsAnswer}
use Rattle.amr_labels.proofs.matcher.match_cache.no_answers.Given as goal

abbrev pub invariant-loop-bucket : goal.invariant-loop-bucket
invariant-loop-bucket l = All (λ latest. IfSome latest IsAnswer) l.none.items
