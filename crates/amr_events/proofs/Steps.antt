-- A loop over the items of a list or the members of an object reads what the definition does: what
-- it has read, with what is left, is all.
use Rattle.std.proofs.Common.{◌≡◌, ℕ, List, [], ◌∷◌, ◌++◌, Option, Some, None, arith, append_assoc, String, string_bytes}
use Rattle.std.specs.declared.alloc.Global.{Global}
use Rattle.serde_json.specs.Data.{Data}
use Rattle.serde_json.specs.View.{view, members_view}
use Rattle.serde_json.specs.declared.value.Value.{Value}
use Rattle.amr_events.specs.Shapes.{each_member}

-- what came in front, with the rest
abbrev pub ahead : {A : Type 0} → List A → Option (List A) → Option (List A)
ahead front None = None
ahead front (Some rest) = Some (front ++ rest)

-- the entries of an object that are left; the first is under k
pub member_more : {A : Type 0} (reads : List ℕ → Data → Option A) (rest more : List (String Global × Value)) (k : String Global) (v : Value) (front : List A) (total : Option (List A)) (x : A)
    → rest ≡ (k, v) ∷ more → reads (string_bytes k) (view v) ≡ Some x → ahead front (each_member reads (members_view rest)) ≡ total → ahead (front ++ x ∷ []) (each_member reads (members_view more)) ≡ total
member_more reads rest more k v front total x is step so_far = grind (arith, append_assoc front)
