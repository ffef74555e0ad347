use Rattle.std.proofs.Common.{◌≡◌, ap, ◌∙◌}
use Rattle.std.proofs.lemmas.Result.{IfOk-weaker}
use Rattle.amr_config.specs.Stated.RuleMatches.{rule_matches}
use Rattle.amr_config.specs.RuleNames.{kept_for}
use Rattle.amr_config.proofs.RuleNames.{same_sides}
use Rattle.amr_config.proofs.router.Router.sides_of.Goals as goal

pub returns-in-Some-clause-sides : goal.returns-in-Some-clause-sides
returns-in-Some-clause-sides c =
    let rules = c.args.self.now.rules in
    let labels = c.args.labels.now in
    let here : c.in-Some.kept ≡ kept_for c.self.inside.config.rules labels = rw c.in-Some.is at c.in_ok-kept.ensures in
    let is : c.in-Some.kept ≡ kept_for rules labels = here ∙ ap (λ k. kept_for k.rules labels) c.self.view_is in
    IfOk-weaker c.sides_of_kept.result _ _ (λ v h. h ∙ ap (λ l. rule_matches l rules) is ∙ same_sides rules labels) c.sides_of_kept.ensures.sides
