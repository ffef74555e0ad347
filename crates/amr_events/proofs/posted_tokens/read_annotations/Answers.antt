use Rattle.amr_events.proofs.Drafting.{adds_annotations}
use Rattle.amr_events.proofs.posted_tokens.read_annotations.Goals as goal

pub returns-in_ok-annotations-in-Some-clause-added : goal.returns-in_ok-annotations-in-Some-clause-added
returns-in_ok-annotations-in-Some-clause-added c =
    rw (c.with_annotations.ensures, c.in_ok-annotations-in-Some.ensures, c.as_slice.ensures.value) (adds_annotations c.args.draft _ _ _ (rw c.in-Some.is at c.in_ok-texts.ensures.read))
