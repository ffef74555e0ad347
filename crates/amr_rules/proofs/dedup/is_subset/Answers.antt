use Rattle.amr_rules.proofs.Subsets.{item_contained}
use Rattle.amr_rules.proofs.dedup.is_subset.Goals as goal

pub has-requires : goal.has-requires
has-requires c = item_contained c.args.b.now c.as_slice-items.result.now c.loop-index.index c.get.result c.as_slice-items.ensures c.get.ensures.lookup.3
