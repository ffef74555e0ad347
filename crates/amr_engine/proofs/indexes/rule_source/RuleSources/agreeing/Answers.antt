use Rattle.std.proofs.Common.{option_copied, ◌≡◌, ◌≤◌, None, refl, length, arith, sym, ap, ◌∙◌}
use Rattle.std.proofs.lemmas.Bool.Decides.{nat_tests}
use Rattle.amr_tables.specs.Numbered.{next_number}
use Rattle.amr_engine.specs.Indexes.LabelValues.{label_values}
use Rattle.amr_engine.proofs.IndexesLemmas.Sources.{side_agreeing, none_listed}
use Rattle.amr_engine.proofs.indexes.rule_source.RuleSources.agreeing.Goals as goal

pub returns : goal.returns
returns c =
    let arrived = c.args.self.now in
    let rule = c.args.rule.now in
    let target = c.args.target.now in
    let same : length arrived ≡ length c.self.inside.arrived.items = ap length (sym c.self.view_is) in
    let covered : length arrived ≤ c.in-Some.cached.now.covered = omega (arith, same, c.if-cached-len.false, c.len.ensures) in
    let lists = rw c.in-Some.is at c.in_ok-side.ensures.lists in
    let is = rw c.in-Some.is at c.in_ok-side.ensures.side in
    side_agreeing arrived c.in-Some.cached.now rule target c.in_ok-values.values (option_copied c.get.result) lists is
    covered (c.in_ok-values.ensures ∙ ap (λ names. label_values names target) c.as_slice.ensures) c.get.ensures

pub returns-then-next_number-eq0 : goal.returns-then-next_number-eq0
returns-then-next_number-eq0 c =
    let arrived = c.args.self.now in
    let rule = c.args.rule.now in
    let target = c.args.target.now in
    let cached = c.in-Some.cached.now in
    let same : length arrived ≡ length c.self.inside.arrived.items = ap length (sym c.self.view_is) in
    let covered : length arrived ≤ cached.covered = omega (arith, same, c.if-cached-len.false, c.len.ensures) in
    let lists = rw c.in-Some.is at c.in_ok-side.ensures.lists in
    let is = rw c.in-Some.is at c.in_ok-side.ensures.side in
    let none : next_number cached.sources ≡ 0 = grind (arith, nat_tests, c.next_number.ensures.next) in
    side_agreeing arrived cached rule target (label_values rule.equal target) None lists is covered refl (none_listed cached.sources (label_values rule.equal target) none)
