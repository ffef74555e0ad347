-- Places that are empty, after others.
use Rattle.std.proofs.Common.{◌≡◌, ◌++◌, ℕ, List, Option, None, replicate, sym, subst}
use Rattle.std.specs.List.{All}
use Rattle.std.proofs.lemmas.List.Elements.{All-append, All-replicate}

-- what is so at each place is so when empty ones follow, if it is so at these
pub so_with_empty : {V : Type 0} (is : Option V → Type 0) (before after : List (Option V)) (count : ℕ) → after ≡ before ++ replicate count None → is None → All is before → All is after
so_with_empty is before after count more none all =
    subst (All is) (sym more) (All-append is before (replicate count None) all (All-replicate is count None none))
