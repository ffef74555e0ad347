-- The number of a path below another.
use Rattle.std.proofs.Common.{◌≡◌, [], ◌∷◌, ◌++◌, List}
use Rattle.std.proofs.lemmas.Grind.{fold-append}
use Rattle.amr_labels.specs.Matcher.Matchers.{Matcher}
use Rattle.amr_config.specs.Paths.{Path, path_hash, hash_below}

pub hash_more : (path : Path) (own : List Matcher) → path_hash (path ++ own ∷ []) ≡ hash_below (path_hash path) own
unfolding path_hash
hash_more path own = fold-append hash_below 0 path (own ∷ [])
