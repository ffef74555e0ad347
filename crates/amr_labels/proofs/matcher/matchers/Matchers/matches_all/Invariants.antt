use Rattle.std.proofs.Common.{◌≡◌, drop}
use Rattle.amr_labels.specs.Matcher.Matchers.{all_hold}
use Rattle.amr_labels.proofs.matcher.matchers.Matchers.matches_all.Given as goal

abbrev pub invariant-loop-matcher : goal.invariant-loop-matcher
invariant-loop-matcher l = all_hold l.self l.labels ≡ all_hold (drop l.matcher-index l.matcher-items) l.labels
