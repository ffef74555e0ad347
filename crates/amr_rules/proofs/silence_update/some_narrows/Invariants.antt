use Rattle.std.proofs.Common.{◌≡◌, drop}
use Rattle.std.specs.List.{list_any}
use Rattle.amr_rules.specs.Silences.{narrows}
use Rattle.amr_rules.proofs.silence_update.some_narrows.Given as goal

-- the matchers that are left decide
abbrev pub invariant-loop-matcher : goal.invariant-loop-matcher
invariant-loop-matcher l = list_any narrows l.matchers ≡ list_any narrows (drop l.matcher-index l.matchers)
