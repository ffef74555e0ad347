use Rattle.std.proofs.Common.{sym, ◌∙◌}
use Rattle.std.specs.Ordering.{eq_by_cmp}
use Rattle.std.specs.Cmp.Lexicographic.{pointwise}
use Rattle.std.proofs.lemmas.Bool.{false≢true}
use Rattle.amr_labels.specs.Labels.{text_cmp}
use Rattle.amr_config.proofs.Alike.{matchers_decide, names_decide}
use Rattle.amr_engine.proofs.indexes.rule_source.is_side_of.Goals as goal

pub returns-then-eq : goal.returns-then-eq
returns-then-eq c =
    let side = c.args.side.now in
    let rule = c.args.rule.now in
    let source = matchers_decide side.source rule.source c.eq.result c.eq.ensures in
    let compared = c.eq-then-eq.ensures ∙ (λ i. pointwise (eq_by_cmp text_cmp) (c.as_slice.ensures.value i) (c.as_slice-then-eq.ensures i)) in
    let names = names_decide side.equal.items rule.equal c.eq-then-eq.result compared in
    (λ yes. record { source = source.0 c.if-eq.true; equal = names.0 yes }, λ same. names.1 same.equal)

pub returns-else-eq : goal.returns-else-eq
returns-else-eq c =
    let source = matchers_decide c.args.side.now.source c.args.rule.now.source c.eq.result c.eq.ensures in
    (λ yes. absurd (false≢true (sym c.if-eq.false ∙ yes)), λ same. absurd (false≢true (sym c.if-eq.false ∙ source.1 same.source)))
