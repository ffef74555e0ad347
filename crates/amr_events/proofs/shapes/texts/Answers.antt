use Rattle.std.proofs.lemmas.Map.Iter.{rest_more}
use Rattle.std.specs.Map.Iter.{deref_pair}
use Rattle.serde_json.specs.View.{view}
use Rattle.amr_events.specs.Shapes.{named_text, texts_in}
use Rattle.amr_events.proofs.Steps.{member_more}
use Rattle.amr_events.proofs.shapes.texts.Goals as goal

pub loop-name-preserved : goal.loop-name-preserved
loop-name-preserved c =
    let rest = rest_more deref_pair _ _ _ (c.in-Some.name, c.in-Some.value) c.in-Some.is c.next.ensures.steps in
    rw c.in_ok-push.ensures.items (member_more named_text c.loop-name.name-iterator c.next.new.self c.in-Some.name.now c.in-Some.value.now c.loop-name.texts.items (texts_in (view c.args.value.now)) c.in_ok-named_text.field-0 rest (rw c.deref.ensures at c.in_ok-named_text.ensures) c.loop-name.invariant)
