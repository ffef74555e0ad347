use Rattle.amr_events.specs.Posts.Ids.{id_text}
use Rattle.amr_events.proofs.posts.silence_id.SilenceId.text.Goals as goal

pub returns : goal.returns
unfolding id_text
returns c = rw (c.encode_lower.ensures.text, c.hyphenated.ensures, c.from_u128.ensures, c.bits.ensures) at c.from_str.ensures.ok
