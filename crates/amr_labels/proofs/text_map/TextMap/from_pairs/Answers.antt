use Rattle.std.proofs.Common.{sym, ap, ◌∙◌}
use Rattle.std.proofs.lemmas.Result.{IfOk-weaker}
use Rattle.std.specs.Cmp.Lexicographic.{nat_list_cmp_total}
use Rattle.amr_labels.specs.Labels.{text_cmp, text_cmp-IsAntisymmetric}
use Rattle.amr_labels.specs.Map as map
use Rattle.amr_labels.proofs.Ascending.{ascending_map}
use Rattle.amr_labels.proofs.text_map.TextMap.from_pairs.Goals as goal

pub returns-then-ascend : goal.returns-then-ascend
returns-then-ascend c =
    IfOk-weaker c.of_sorted.result _ _ (λ texts e.
    e ∙ ap (map.from_sorted {R = text_cmp}) c.in_ok-copies.ensures
    ∙ ascending_map nat_list_cmp_total text_cmp-IsAntisymmetric c.args.pairs.now (rw (sym c.ascend.ensures ∙ c.if-ascend.true) tt))
    c.of_sorted.ensures
