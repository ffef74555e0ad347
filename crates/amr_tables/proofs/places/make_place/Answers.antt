use Rattle.std.proofs.Common.{◌≡◌, ℕ, ◌-◌, ◌++◌, ◌∷◌, [], List, None, length, length-append, replicate, refl, arith}
use Rattle.std.proofs.lemmas.Grind.{replicate_next}
use Rattle.std.proofs.lemmas.List.{append_assoc, length_push}
use Rattle.amr_tables.proofs.places.make_place.Goals as goal

one_more : {X : Type 0} (old places : List X) (none : X) (added : ℕ) → added ≡ length places - length old → places ≡ old ++ replicate added none
    → places ++ none ∷ [] ≡ old ++ replicate (length (places ++ none ∷ []) - length old) none
one_more old places none added count is = grind (arith, append_assoc old (replicate added none) (none ∷ []), replicate_next added none, length-append old (replicate added none), length_push places none, count, is)

pub loop-places-preserved : goal.loop-places-preserved
loop-places-preserved g c = rw c.in_ok-push.ensures.items (one_more c.args.places.now.items c.loop-places.places.items None _ refl c.loop-places.invariant)
