-- Parts of JSON values. There is none if a value has another shape.
use Rattle.std.specs.Prelude.{List, [], ◌∷◌, Bool, Option, Some, None}
use Rattle.serde_json.specs.Data.{Data, Items, no_items, item, Members, no_members, member}
use Rattle.serde_json.specs.Find.{get, as_bool, as_str, as_object}
use Rattle.amr_labels.specs.Labels.{Text}
use Rattle.amr_time.specs.Time.{Moment}
use Rattle.amr_time.specs.MomentRead.{moment_at}

infixl 10 ◌>>=◌
abbrev pub ◌>>=◌ : {A B : Type 0} → Option A → (A → Option B) → Option B
None >>= f = None
(Some x) >>= f = f x

-- what each of the items is read as
abbrev pub each_item : {A : Type 0} → (Data → Option A) → Items → Option (List A)
each_item reads no_items = Some []
each_item reads (item d items) = do
  x ← reads d
  xs ← each_item reads items
  Some (x ∷ xs)

-- what each of the members is read as
abbrev pub each_member : {A : Type 0} → (Text → Data → Option A) → Members → Option (List A)
each_member reads no_members = Some []
each_member reads (member name d members) = do
  x ← reads name d
  xs ← each_member reads members
  Some (x ∷ xs)

-- a name with a text
unfoldable pub named_text : Text → Data → Option (Text × Text)
named_text name d = do
  text ← as_str d
  Some (name, text)

-- an object of texts, in the order of the names
unfoldable pub texts_in : Data → Option (List (Text × Text))
texts_in d = do
  members ← as_object d
  each_member named_text members

-- the text under a key
unfoldable pub text_under : Text → Data → Option Text
text_under key d = get key d >>= as_str

abbrev pub flag_at : Bool → Option Data → Option Bool
flag_at default None = Some default
flag_at default (Some d) = as_bool d

-- the boolean under a key; if the key is absent, the default
unfoldable pub flag_under : Text → Bool → Data → Option Bool
flag_under key default d = flag_at default (get key d)

-- the moment under a key
unfoldable pub moment_under : Text → Data → Option Moment
moment_under key d = do
  stated ← get key d
  text ← as_str stated
  moment_at text
