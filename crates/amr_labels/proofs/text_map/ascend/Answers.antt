use Rattle.std.proofs.Common.{rules, is_lt}
use Rattle.std.specs.Cmp.Lexicographic.{nat_list_cmp_total}
use Rattle.std.proofs.lemmas.Fn.{always_returns_same}
use Rattle.amr_labels.specs.Labels.{Text, text_cmp}
use Rattle.amr_labels.proofs.Ascending.{ascending}
use Rattle.amr_labels.proofs.text_map.ascend.Goals as goal

pub returns : goal.returns
returns c =
    ascending nat_list_cmp_total c.args.pairs.now c.is_sorted_by.result
    (c.is_sorted_by.ensures.cases (λ (x y : Text × Text). is_lt (text_cmp x.0 y.0)) (always_returns_same _ _ _ (λ a r f called. (called.met.0, search rules))))
