use Rattle.std.proofs.Common.{arith}
use Rattle.std.proofs.lemmas.Grind.{common_steps}
use Rattle.amr_labels.specs.Map.{entries}
use Rattle.amr_rules.specs.Muting.{is_agreeing}
use Rattle.amr_rules.proofs.MutingLaws.{no_source}
use Rattle.amr_rules.proofs.Searching.{list_all-filter, first-sources_of}
use Rattle.amr_rules.proofs.muting.inhibitor_by.Goals as goal

pub returns-then-not-side : goal.returns-then-not-side
returns-then-not-side g c =
    no_source c.args.now c.args.target.now (g.A.AlertStore.alerts c.args.alerts.now) c.args.rule.now (grind (arith, common_steps))

pub first_source-requires-clause-agreeing : goal.first_source-requires-clause-agreeing
first_source-requires-clause-agreeing g c =
    grind (arith, list_all-filter (λ source. is_agreeing c.args.rule.now c.args.target.now source.0) (entries (g.A.AlertStore.alerts c.args.alerts.now)))

pub returns : goal.returns
returns g c = grind (arith, first-sources_of c.args.now c.args.rule.now c.args.target.now (g.A.AlertStore.alerts c.args.alerts.now))
