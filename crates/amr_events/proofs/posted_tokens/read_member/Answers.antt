use Rattle.amr_events.proofs.posted_tokens.read_member.Goals as goal

pub returns-in-annotations-clause-added : goal.returns-in-annotations-clause-added
returns-in-annotations-clause-added c = rw c.in-annotations.is c.read_annotations.ensures.added
