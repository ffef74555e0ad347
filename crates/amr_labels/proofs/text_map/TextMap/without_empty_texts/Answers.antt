use Rattle.std.proofs.Common.{[], not, sym, ap, ◌∙◌}
use Rattle.std.proofs.lemmas.Result.{IfOk-weaker}
use Rattle.std.specs.Cmp.Lexicographic.{nat_list_cmp_total}
use Rattle.std.specs.List.{list_all}
use Rattle.amr_labels.specs.Labels.{Text, is_empty}
use Rattle.amr_labels.proofs.Pairs.{all_retained, filter_by_values, sorted_where_key, retained}
use Rattle.amr_labels.proofs.text_map.TextMap.without_empty_texts.Goals as goal

pub of_sorted-requires : goal.of_sorted-requires
of_sorted-requires c =
    sorted_where_key nat_list_cmp_total c.args.self.now _ _
    (rw c.entries-2.ensures at c.in_ok-kept.ensures ∙ filter_by_values nat_list_cmp_total c.args.self.now (λ text. not (is_empty text)) [])

pub returns-then-are_filled : goal.returns-then-are_filled
returns-then-are_filled c =
    c.in_ok-clone.ensures.cases
    ∙ sym (all_retained nat_list_cmp_total c.args.self.now (λ text. not (is_empty text)) []
    (ap (list_all (λ (pair : Text × Text). not (is_empty pair.1))) (sym c.entries.ensures) ∙ sym c.are_filled.ensures ∙ c.if-are_filled.true))

pub returns : goal.returns
returns c =
    IfOk-weaker c.of_sorted.result _ _ (λ kept e. e ∙ retained nat_list_cmp_total c.args.self.now _ _
    (rw c.entries-2.ensures at c.in_ok-kept.ensures ∙ filter_by_values nat_list_cmp_total c.args.self.now (λ text. not (is_empty text)) []))
    c.of_sorted.ensures
