-- What the code decided of a post of a silence, as the silences that it leaves.
use Rattle.std.specs.Prelude.{ℕ, Option, Some, Result, Ok, Err}
use Rattle.amr_labels.specs.Map.{insert}
use Rattle.amr_rules.specs.declared.silence_update.SilenceUpdate.{SilenceUpdate}
use Rattle.amr_rules.specs.declared.silence_update.SilenceUpdate.TheVariants.{InPlace, New}
use Rattle.amr_rules.specs.Silences.{Silences, stored_under}
use Rattle.amr_events.specs.Posts.Reasons.{Reason, reason_number}
use Rattle.amr_events.specs.declared.posts.posted_silence.PostedSilence.{PostedSilence}
use Rattle.amr_events.specs.declared.posts.reason.Reason as code

-- the silences after storing what a post stores; the post names the first id, and its new silence
-- has the second
abbrev pub update_stored : Option ℕ → ℕ → SilenceUpdate → Silences → Silences
update_stored id new_id (InPlace silence) silences = stored_under id (Some silence) silences
update_stored id new_id (New silence old) silences = insert (stored_under id old silences) new_id silence

-- the silences after storing what a post stores
abbrev pub with_decision : PostedSilence → SilenceUpdate → Silences → Silences
with_decision posted silence_update silences = update_stored posted.id posted.new_id silence_update silences

-- the silences after what was decided of a post, or the reason that refuses it
abbrev pub after_decision : PostedSilence → Silences → Result SilenceUpdate code.Reason → Result Silences Reason
after_decision posted silences (Ok silence_update) = Ok (with_decision posted silence_update silences)
after_decision posted silences (Err reason) = Err (reason_number reason)
