use Rattle.std.proofs.Common.{◌≤◌, length, ap, subst, ◌∙◌, filter, option_copied, take_all}
use Rattle.amr_labels.specs.Labels.{Text}
use Rattle.amr_config.specs.Groups.{keeps}
use Rattle.amr_config.proofs.Kept.{entries_kept}
use Rattle.amr_config.proofs.group_labels.kept_texts.Goals as goal

pub returns : goal.returns
returns c =
    let all = subst (λ labels. length labels ≤ c.loop-label.label-index) c.entries-label-items.ensures c.loop-label-test.false in
    c.loop-label.invariant
    ∙ ap (filter (λ (label : Text × Text). keeps (option_copied c.args.grouping) label.0)) (take_all _ _ all)
    ∙ entries_kept (option_copied c.args.grouping) c.args.labels.now
