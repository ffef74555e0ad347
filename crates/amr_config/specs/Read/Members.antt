-- Reading members by their shapes. A member that is `null` counts as absent.
use Rattle.std.specs.Prelude.{ℕ, List, [], ◌∷◌, ◌++◌, Bool, false, ◌||◌, unwrap_or, option_and_then, Option, Some, None}
use Rattle.serde_json.specs.Data.{Data, null, boolean, number, string, array, object, Items, no_items, item, Members}
use Rattle.serde_json.specs.Find.{get, as_str, as_bool, as_array, as_object}
use Rattle.amr_time.specs.SpanRead.{span_of}
use Rattle.amr_time.specs.Time.{Span}
use Rattle.amr_labels.specs.Labels.{Text}
use Rattle.amr_config.specs.Read.Paths.{under, item_path}
use Rattle.amr_config.specs.Read.Readings.{Reading, give, faulty, ◌>>=◌, items_in_turn}

abbrev pub unless_null : Option Data → Option Data
unless_null None = None
unless_null (Some null) = None
unless_null (Some (boolean b)) = Some (boolean b)
unless_null (Some (number n)) = Some (number n)
unless_null (Some (string s)) = Some (string s)
unless_null (Some (array ds)) = Some (array ds)
unless_null (Some (object ms)) = Some (object ms)

unfoldable pub member_of : List ℕ → Data → Option Data
member_of key d = unless_null (get key d)

-- a member that may be absent
abbrev pub optional : {A : Type 0} → (Data → Reading A) → Option Data → Reading (Option A)
optional reads None = give None
optional reads (Some d) = reads d >>= λ x. give (Some x)

-- a member of this shape under a key; it may be absent
abbrev pub optional_member : {A : Type 0} → (List ℕ → Data → Reading A) → List ℕ → List ℕ → Data → Reading (Option A)
optional_member shape path key d = optional (shape (under path key)) (member_of key d)

-- a member that must be present
abbrev pub required_value : {A : Type 0} → List ℕ → (Data → Reading A) → Option Data → Reading A
required_value path reads None = faulty path
required_value path reads (Some d) = reads d

-- a member of this shape under a key; it must be present
abbrev pub required_member : {A : Type 0} → (List ℕ → Data → Reading A) → List ℕ → List ℕ → Data → Reading A
required_member shape path key d = required_value (under path key) (shape (under path key)) (member_of key d)

abbrev pub or_faulty : {A : Type 0} → List ℕ → Option A → Reading A
or_faulty path None = faulty path
or_faulty path (Some x) = give x

abbrev pub text_at : List ℕ → Data → Reading Text
text_at path d = or_faulty path (as_str d)

abbrev pub flag_at : List ℕ → Data → Reading Bool
flag_at path d = or_faulty path (as_bool d)

abbrev pub items_at : List ℕ → Data → Reading Items
items_at path d = or_faulty path (as_array d)

abbrev pub members_at : List ℕ → Data → Reading Members
members_at path d = or_faulty path (as_object d)

unfoldable pub span_at : List ℕ → Data → Reading Span
span_at path d = text_at path d >>= λ text. or_faulty path (span_of text)

-- the next text of a list, added to those before it
unfoldable pub text_into : List ℕ → ℕ → Data → List Text → Reading (List Text)
text_into path i d texts = text_at (item_path path i) d >>= λ text. give (texts ++ text ∷ [])

-- a list of texts
unfoldable pub texts_at : List ℕ → Data → Reading (List Text)
texts_at path d = items_at path d >>= λ ds. items_in_turn (text_into path) 0 ds []

-- ---- items of any shape

abbrev pub any_item : (Data → Bool) → Items → Bool
any_item p no_items = false
any_item p (item d ds) = p d || any_item p ds

-- the items of a list; none, if there is no list
abbrev pub list_in : Option Data → Items
list_in d = unwrap_or (option_and_then as_array d) no_items
