use Rattle.std.proofs.Common.{◌∙◌, sym}
use Rattle.amr_events.proofs.Counts.{no_entries}
use Rattle.amr_events.proofs.text_cache.TextCache.no_texts.Goals as goal

pub returns-then-is_empty : goal.returns-then-is_empty
returns-then-is_empty c = c.in_ok-clone.ensures.cases ∙ no_entries _ (sym c.is_empty.ensures ∙ c.if-is_empty.true)
