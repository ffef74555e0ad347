use Rattle.std.proofs.Common.{◌≡◌, take}
use Rattle.amr_labels.specs.Lent.{lent_texts}
use Rattle.amr_events.proofs.text_cache.TextCache.share_pairs.Given as goal

abbrev pub invariant-loop-name : goal.invariant-loop-name
invariant-loop-name l = l.shared.items ≡ lent_texts (take l.name-index l.stated)
