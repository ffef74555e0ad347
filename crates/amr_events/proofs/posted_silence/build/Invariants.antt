use Rattle.std.proofs.Common.{◌≡◌, take}
use Rattle.amr_events.proofs.posted_silence.build.Given as goal

abbrev pub invariant-loop-matcher : goal.invariant-loop-matcher
invariant-loop-matcher l = l.matchers.items ≡ take l.matcher-index l.stated
