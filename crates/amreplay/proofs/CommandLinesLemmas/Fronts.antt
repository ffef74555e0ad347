-- The front of a list that passes a test.
use Rattle.std.proofs.Common.{◌≡◌, Bool, List, length, arith}
use Rattle.std.specs.List.{prefix_len, take_while}
use Rattle.std.proofs.lemmas.Grind.{common_steps}
use Rattle.std.proofs.lemmas.List.Sums.{prefix_len-le-length}

pub front_len : {X : Type 0} (p : X → Bool) (xs : List X) → length (take_while p xs) ≡ prefix_len p xs
front_len p xs = let le = prefix_len-le-length p xs in grind (arith, common_steps, le)
