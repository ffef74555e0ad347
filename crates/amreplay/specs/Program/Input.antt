-- What is read of a file.
use Rattle.std.specs.Prelude.{◌≡◌, ℕ, List, Option, Some, None, ⊤}

-- the bytes that were read stand for all that was to be read: what this says of them, it says of all
abbrev pub StandFor : {A : Type 0} → (List ℕ → A → Type 0) → Option (List ℕ) → List ℕ → Type 0
StandFor Is None bytes = ⊤
StandFor {A} Is (Some all) bytes = (answer : A) → Is bytes answer → Is all answer

-- these are all bytes of a source, if it is known what it has
abbrev pub MayHold : Option (List ℕ) → List ℕ → Type 0
MayHold None bytes = ⊤
MayHold (Some all) bytes = all ≡ bytes
