use Rattle.std.proofs.Common.{◌≡◌, List, ℕ, Option, Some, None, refl, ap, option_map}
use Rattle.std.specs.Int.{w128, from_be_bytes}
use Rattle.std.proofs.lemmas.Bool.{false≢true}
use Rattle.uuid.specs.Text.{parsed}
use Rattle.amr_events.specs.Posts.Ids.{id_of}
use Rattle.amr_events.proofs.posts.silence_id.SilenceId.read.Goals as goal

none_of : (p : Option (List ℕ)) → ((u : List ℕ) → p ≡ Some u → ⊥) → None ≡ p
none_of None h = refl
none_of (Some u) h = absurd (h u refl)

pub returns-in-Err : goal.returns-in-Err
unfolding id_of
returns-in-Err c = ap (option_map (from_be_bytes w128)) (none_of (parsed c.args.text.now) (λ u e. false≢true (c.in-Err.ensures.ok.1 (u, e))))
