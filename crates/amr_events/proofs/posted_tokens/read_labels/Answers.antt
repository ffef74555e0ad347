use Rattle.amr_events.proofs.Drafting.{adds_labels}
use Rattle.amr_events.proofs.posted_tokens.read_labels.Goals as goal

pub returns-in_ok-labels-in-Some-clause-added : goal.returns-in_ok-labels-in-Some-clause-added
returns-in_ok-labels-in-Some-clause-added c =
    rw (c.with_labels.ensures, c.in_ok-labels-in-Some.ensures, c.as_slice.ensures.value) (adds_labels c.args.draft _ _ _ (rw c.in-Some.is at c.in_ok-texts.ensures.read))
