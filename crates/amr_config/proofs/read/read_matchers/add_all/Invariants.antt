use Rattle.std.proofs.Common.{◌≡◌, ◌++◌, take}
use Rattle.amr_config.proofs.read.read_matchers.add_all.Given as goal

abbrev pub invariant-loop-matcher : goal.invariant-loop-matcher
invariant-loop-matcher l = l.matchers.items ≡ l.fn.matchers.items ++ take l.matcher-index l.more
