use Rattle.std.proofs.Common.{sym, ◌∙◌}
use Rattle.std.specs.Cmp.Lexicographic.{nat_list_cmp_total}
use Rattle.amr_labels.specs.Map as map
use Rattle.amr_labels.specs.Labels.{text_cmp}
use Rattle.amr_labels.proofs.Pairs.{last_counts}
use Rattle.amr_labels.proofs.Trees.{insert_of_tree}
use Rattle.amr_labels.proofs.text_map.tree_of.Goals as goal

pub loop-pair-preserved : goal.loop-pair-preserved
loop-pair-preserved c = record {
  ordered = c.insert.ensures.ordered;
  made =
      insert_of_tree nat_list_cmp_total c.loop-pair.tree c.insert.new.self _ _ c.loop-pair.invariant.ordered c.insert.ensures.ordered c.in_ok-insert.ensures.entries
      ∙ (λ i. map.insert (c.loop-pair.invariant.made i) (c.in_ok-clone.ensures.cases i) (c.in_ok-clone-2.ensures.cases i))
      ∙ sym (last_counts text_cmp c.args.pairs.now c.loop-pair.pair-index c.pair-item.result c.loop-pair-test.true c.pair-item.is);
}
