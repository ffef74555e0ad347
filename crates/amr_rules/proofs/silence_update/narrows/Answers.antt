use Rattle.std.proofs.Common.{arith}
use Rattle.amr_labels.specs.Map.{get-empty}
use Rattle.amr_labels.specs.Labels.{Text, text_cmp}
use Rattle.amr_rules.proofs.silence_update.narrows.Goals as goal

-- a label is absent from the set without labels, so it counts as empty
pub returns : goal.returns
returns c = grind (arith, get-empty {X = Text} text_cmp c.args.matcher.now.name)
