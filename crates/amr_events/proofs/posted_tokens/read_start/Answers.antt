use Rattle.amr_events.proofs.Drafting.{adds_start}
use Rattle.amr_events.proofs.posted_tokens.read_start.Goals as goal

pub returns-clause-added : goal.returns-clause-added
returns-clause-added c = rw c.with_start.ensures (adds_start c.args.draft _ _ c.in_ok-time.time c.in_ok-time.ensures.read)
