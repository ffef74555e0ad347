use Rattle.std.proofs.Common.{◌≡◌, take}
use Rattle.amr_config.proofs.sorted.copies.Given as goal

abbrev pub invariant-loop-matcher : goal.invariant-loop-matcher
invariant-loop-matcher l = l.copies.items ≡ take l.matcher-index l.matchers
