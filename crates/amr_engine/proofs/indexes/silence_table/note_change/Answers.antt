use Rattle.std.proofs.Common.{List, sym, subst}
use Rattle.amr_engine.specs.declared.indexes.silence_change.SilenceChange.{SilenceChange}
use Rattle.amr_engine.specs.Indexes.CachedSilences.{AreCached}
use Rattle.amr_engine.proofs.IndexesLemmas.CachedSilences.{cached_still}
use Rattle.amr_engine.proofs.indexes.silence_table.note_change.Goals as goal

pub returns-then-count-capacity-clause-cached : goal.returns-then-count-capacity-clause-cached
returns-then-count-capacity-clause-cached c = λ before after same are_cached.
    subst (λ (cs : List SilenceChange). AreCached after cs c.args.cached.now.items) (sym c.push_reserved.ensures.items)
    (cached_still before after c.args.changes.now.items c.args.cached.now.items c.args.noted same are_cached)
