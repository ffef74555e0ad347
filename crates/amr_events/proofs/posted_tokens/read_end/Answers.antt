use Rattle.amr_events.proofs.Drafting.{adds_end}
use Rattle.amr_events.proofs.posted_tokens.read_end.Goals as goal

pub returns-clause-added : goal.returns-clause-added
returns-clause-added c = rw c.with_end.ensures (adds_end c.args.draft _ _ c.in_ok-time.time c.in_ok-time.ensures.read)
