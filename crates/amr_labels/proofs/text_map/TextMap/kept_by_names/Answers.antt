use Rattle.std.proofs.Common.{◌∙◌}
use Rattle.std.proofs.lemmas.Result.{IfOk-weaker}
use Rattle.std.specs.Cmp.Lexicographic.{nat_list_cmp_total}
use Rattle.amr_labels.proofs.Pairs.{sorted_where_key, retained}
use Rattle.amr_labels.proofs.text_map.TextMap.kept_by_names.Goals as goal

pub of_sorted-requires : goal.of_sorted-requires
of_sorted-requires c = sorted_where_key nat_list_cmp_total c.args.self.now _ _ (rw c.entries.ensures at c.in_ok-kept.ensures)

pub returns : goal.returns
returns c =
    IfOk-weaker c.of_sorted.result _ _ (λ kept e. e ∙ retained nat_list_cmp_total c.args.self.now _ _ (rw c.entries.ensures at c.in_ok-kept.ensures))
    c.of_sorted.ensures
