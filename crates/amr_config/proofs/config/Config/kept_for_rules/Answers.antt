use Rattle.std.proofs.Common.{◌≡◌, Some, sym, ap, subst, ◌∙◌, IfSome}
use Rattle.amr_config.specs.Stated.Config.{Config}
use Rattle.amr_config.specs.declared.config.Parts.{Parts}
use Rattle.amr_config.specs.RuleNames.{AreNamesOf, kept_for}
use Rattle.amr_config.proofs.RuleNames.{kept_by}
use Rattle.amr_config.proofs.config.Config.kept_for_rules.Goals as goal

pub returns-in_ok-kept_by_names-in-Some : goal.returns-in_ok-kept_by_names-in-Some
returns-in_ok-kept_by_names-in-Some c =
    let parts = c.self.inside.shared.value in
    let names = c.in-Some.names in
    let labels = c.args.labels.now in
    let is : parts.rule_names ≡ Some names = ap (λ (p : Parts). p.rule_names) (sym c.deref.ensures) ∙ c.in-Some.is in
    let are : AreNamesOf parts.stated.rules names = subst (λ o. IfSome o (AreNamesOf parts.stated.rules)) is c.self.invariant.rule_names in
    c.in_ok-kept_by_names-in-Some.ensures ∙ kept_by parts.stated.rules names labels are ∙ ap (λ (k : Config). kept_for k.rules labels) c.self.view_is
