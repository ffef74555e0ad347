use Rattle.std.proofs.Common.{unwrap_or, OnOk, OnErr, ◌≡◌, None, Some, sym, ap, subst, ◌∙◌}
use Rattle.std.specs.FinMap.{find}
use Rattle.amr_labels.specs.Map.{set, get}
use Rattle.amr_tables.specs.Numbered.{number_of}
use Rattle.amr_engine.specs.Indexes.LabelValues.{values_cmp}
use Rattle.amr_engine.specs.Indexes.RuleSources.{IsListedToo, ListsSame}
use Rattle.amr_engine.proofs.IndexesLemmas.Sources.{listed_or_same}
use Rattle.amr_engine.proofs.indexes.rule_source.list_under.Goals.{After-swap_at-2}
use Rattle.amr_engine.proofs.indexes.rule_source.list_under.Goals as goal

-- the label set is listed, or nothing changed
listed : (c : After-swap_at-2) → OnOk c.insert-inserted.result (IsListedToo c.args.values.now c.in_ok-labels.labels c.args.sources.now c.swap_at-2.new.self) × OnErr c.insert-inserted.result (ListsSame c.args.sources.now c.swap_at-2.new.self)
listed c =
    let values = c.args.values.now in
    let made : number_of values_cmp c.make_place.new.self values ≡ Some c.in_ok-number.number = ap (number_of values_cmp c.make_place.new.self) (sym c.in_ok-clone.ensures.cases) ∙ c.in_ok-number.ensures.made in
    let takes = c.swap_at.ensures.shown values made ∙ ap (λ m. set m values None) c.make_place.ensures.shown in
    let was = c.unwrap_or-listed.ensures ∙ (λ i. unwrap_or ((c.swap_at.ensures.former values made ∙ ap (λ m. get m values) c.make_place.ensures.shown) i) (c.new.ensures i)) in
    let puts = c.swap_at-2.ensures.shown values (ap (find values_cmp values) c.swap_at.ensures.keys ∙ made) in
    listed_or_same c.args.sources.now c.swap_at.new.self c.swap_at-2.new.self values c.insert-inserted.new.self takes puts c.unwrap_or-listed.result was c.insert-inserted.result c.in_ok-labels.labels c.insert-inserted.ensures.ok c.insert-inserted.ensures.err

pub returns-clause-ok : goal.returns-clause-ok
returns-clause-ok c = subst (λ labels. OnOk c.insert-inserted.result (IsListedToo c.args.values.now labels c.args.sources.now c.swap_at-2.new.self)) c.in_ok-labels.ensures.cases (listed (goal.at.returns-clause-ok c).After-swap_at-2).0

pub returns-clause-err : goal.returns-clause-err
returns-clause-err c = (listed (goal.at.returns-clause-err c).After-swap_at-2).1
