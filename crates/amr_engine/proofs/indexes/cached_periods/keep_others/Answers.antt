use Rattle.std.proofs.Common.{rules}
use Rattle.std.proofs.lemmas.Fn.{filter_same}
use Rattle.amr_engine.proofs.indexes.cached_periods.keep_others.Goals as goal

pub returns-then-not-is_empty : goal.returns-then-not-is_empty
returns-then-not-is_empty c = filter_same _ _ _ (λ x b f' k. search rules) _ _ c.retain.ensures
