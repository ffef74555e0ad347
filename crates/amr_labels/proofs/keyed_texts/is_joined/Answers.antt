use Rattle.amr_labels.proofs.KeyTexts.{not_joined}
use Rattle.amr_labels.proofs.keyed_texts.is_joined.Goals as goal

pub returns-in-None-clause-other : goal.returns-in-None-clause-other
returns-in-None-clause-other c same-result =
    not_joined c.args.key.now c.loop-name.rest.now c.args.stated.now c.loop-name.name-index _ c.loop-name-test.true c.loop-name.invariant c.in-None.ensures.none
