use Rattle.std.proofs.Common.{◌≡◌, take, ◌||◌}
use Rattle.amr_labels.specs.Labels.{Text}
use Rattle.amr_config.specs.RuleNames.{is_among, is_named}
use Rattle.amr_config.proofs.rule_names.add_names.Given as goal

abbrev pub invariant-loop-matcher : goal.invariant-loop-matcher
invariant-loop-matcher l =
    (name : Text) → is_among l.names.items name ≡ (is_among l.initial.names.items name || is_named (take l.matcher-index l.matchers) name)
