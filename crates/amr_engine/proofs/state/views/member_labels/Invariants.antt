use Rattle.std.proofs.Common.{◌≡◌, map, take}
use Rattle.amr_labels.specs.Labels.{LabelSet}
use Rattle.amr_rules.specs.declared.alert.Alert.{Alert}
use Rattle.amr_engine.proofs.state.views.member_labels.Given as goal

abbrev pub invariant-loop-labels : goal.invariant-loop-labels
invariant-loop-labels l = l.found ≡ map (λ (member : LabelSet × Alert). member.0) (take l.labels-index l.labels-items)
