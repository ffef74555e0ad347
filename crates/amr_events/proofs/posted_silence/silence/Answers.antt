use Rattle.std.proofs.Common.{◌≡◌, Some, refl, rules, arith}
use Rattle.std.proofs.lemmas.Grind.{common_steps}
use Rattle.serde_json.specs.View.{view}
use Rattle.amr_events.specs.PostedSilences.{if_named, silence_of}
use Rattle.amr_events.specs.declared.posts.posted_silence.PostedSilence.{PostedSilence}
use Rattle.amr_events.proofs.posted_silence.silence.Goals as goal

pub returns : goal.returns
unfolding silence_of
returns c =
    let stated : PostedSilence = record {
      id = c.in_ok-id.id;
      new_id = c.in_ok-new_id.new_id;
      matchers = if_named c.in_ok-stated.stated.items;
      starts_at = c.in_ok-starts_at.starts_at;
      ends_at = c.in_ok-ends_at.ends_at;
    } in
    let reads : silence_of (view c.args.line.now) (view c.args.silence.now) ≡ Some stated = first_of (search rules, grind (arith, common_steps)) in
    (stated, reads, record { id = refl; new_id = refl; matchers = rw c.as_slice.ensures.value at c.in_ok-matchers.ensures; starts_at = refl; ends_at = refl })
