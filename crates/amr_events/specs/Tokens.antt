-- JSON values as the tokens of a line state them.
use Rattle.std.specs.Prelude.{◌≡◌, ℕ, ◌≤◌, List, [], ◌∷◌, codes, Some, IfSome}
use Rattle.std.specs.declared.cmp.Ordering.TheVariants.{Less}
use Rattle.json.specs.Token.{Token}
use Rattle.json.specs.Json.{value}
use Rattle.serde_json.specs.Data.{Data, object, Members, put}
use Rattle.serde_json.specs.Read.{of_json, converted}
use Rattle.serde_json.specs.Find.{get_member}
use Rattle.amr_labels.specs.Labels.{Text, text_cmp}
use Rattle.amr_events.specs.Shapes.{◌>>=◌, texts_in}
use Rattle.amr_events.specs.Posted.{annotations_in, time_in}
use Rattle.amr_events.specs.declared.posted_tokens.Draft.{Draft}

-- The tokens begin with a value, nested at most this deep, of which this is true; after it come the
-- other tokens.
pub record States (Is : Data → Type 0) (depth : ℕ) (tokens rest : List Token) : Type 0 where
  pub stated : Data
  pub read : converted of_json (value depth tokens) ≡ Some (stated, rest)
  pub such : Is stated

-- What was read of an alert is what these members of its object state.
pub record IsDraft (found : Members) (draft : Draft) : Type 0 where
  pub labels : IfSome draft.labels (λ labels. (get_member (codes "labels") found >>= texts_in) ≡ Some labels)
  pub annotations : annotations_in (object found) ≡ Some draft.annotations
  pub starts_at : time_in (codes "startsAt") (object found) ≡ Some draft.starts_at
  pub ends_at : time_in (codes "endsAt") (object found) ≡ Some draft.ends_at

-- The tokens begin with the value of a member under this key: with it, the draft that was of some
-- members is now of one more.
abbrev pub Adds : Text → Draft → Draft → List Token → List Token → Type 0
Adds key before after tokens rest =
    (depth : ℕ) → 1 ≤ depth → (found : Members) → IsDraft found before → States (λ d. IsDraft (put key d found) after) depth tokens rest

-- the name is after the last of these names
abbrev pub IsAfter : Text → List (Text × Text) → Type 0
IsAfter name [] = Unit {0}
IsAfter name (pair ∷ []) = text_cmp pair.0 name ≡ Less
IsAfter name (pair ∷ next ∷ pairs) = IsAfter name (next ∷ pairs)
