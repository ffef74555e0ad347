use Rattle.std.proofs.Common.{length}
use Rattle.amr_time.proofs.spans.+parts.Given as goal

abbrev pub decreases-parts : goal.decreases-parts
decreases-parts l = length l.units.now
