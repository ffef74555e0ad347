-- Values at places: what setting one changes, and what a place more adds.
use Rattle.std.proofs.Common.{◌≡◌, ◌≢◌, ℕ, suc, List, [], ◌∷◌, ◌++◌, Option, None, length, arith, slice_set}
use Rattle.std.proofs.lemmas.Option.{unwrap_or-slice_get}
use Rattle.std.proofs.lemmas.List.{get_or-set_other, length_push}
use Rattle.amr_tables.specs.Places.{value_at}

-- the other places keep their values
pub value_apart : {V : Type 0} (cells : List (Option V)) (n m : ℕ) (v : Option V) → m ≢ n → value_at (slice_set cells n v) m ≡ value_at cells m
value_apart cells n m v h = grind (arith, unwrap_or-slice_get (slice_set cells n v) m None, unwrap_or-slice_get cells m None, get_or-set_other cells n m v None h)

pub length-push : {A : Type 0} (xs : List A) (x : A) → length (xs ++ x ∷ []) ≡ suc (length xs)
length-push xs x = omega (arith, length_push xs x)
