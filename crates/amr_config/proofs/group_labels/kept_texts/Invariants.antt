use Rattle.std.proofs.Common.{◌≡◌, take, filter, option_copied}
use Rattle.amr_labels.specs.Lent.{lent_texts}
use Rattle.amr_labels.specs.Map.{entries}
use Rattle.amr_config.specs.Groups.{keeps}
use Rattle.amr_config.proofs.group_labels.kept_texts.Given as goal

abbrev pub invariant-loop-label : goal.invariant-loop-label
invariant-loop-label l = lent_texts l.kept.items ≡ filter (λ label. keeps (option_copied l.grouping) label.0) (take l.label-index (entries l.labels))
