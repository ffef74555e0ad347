use Rattle.std.proofs.Common.{◌≡◌, take}
use Rattle.amr_config.specs.Paths.{hash_below}
use Rattle.amr_config.proofs.route_path.hash_below.Given as goal

abbrev pub invariant-loop-matcher : goal.invariant-loop-matcher
invariant-loop-matcher l = l.hash_value ≡ hash_below l.above (take l.matcher-index l.own)
