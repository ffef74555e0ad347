use Rattle.amr_engine.proofs.CachedQuiet.{still_rest}
use Rattle.amr_engine.proofs.quiet.QuietGroups.still_at.Goals as goal

pub returns-in-Some : goal.returns-in-Some
returns-in-Some c = λ s holds. still_rest s c.in-Some.period.from c.args.at c.in-Some.period.until (c.covers.ensures c.if-covers.true).0 (holds.still c.in-Some.period c.in-Some.is)
