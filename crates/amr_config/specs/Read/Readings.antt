-- What reading a value returns, and which patterns it meets.
use Rattle.std.specs.Prelude.{◌≡◌, ◌⊎◌, ℕ, ◌+◌, List, [], ◌++◌, map, Option, Some, None, Result, Ok, Err}
use Rattle.std.specs.List.{Contains, filter}
use Rattle.serde_json.specs.Data.{Data, Items, no_items, item, Members, no_members, member}
use Rattle.amr_labels.specs.Labels.{Text}
use Rattle.amr_labels.specs.Matcher.Matchers.{Matcher, takes_pattern}
use Rattle.amr_labels.specs.Matcher.Patterns.{MayRefuse}
use Rattle.amr_config.specs.declared.read.error.Refusal.{Refusal}
use Rattle.amr_config.specs.declared.read.error.Refusal.TheVariants.{BadConfig}

pub record Reading (A : Type 0) : Type 0 where
  -- what is read if all patterns are good
  pub value : Result A Refusal
  -- the paths and texts of the patterns before the first fault of another kind
  pub patterns : List (List ℕ × Text)

-- a part without patterns
abbrev pub plain : {A : Type 0} → Result A Refusal → Reading A
plain read = record { value = read; patterns = [] }

abbrev pub give : {A : Type 0} → A → Reading A
give x = plain (Ok x)

-- a fault at a path
abbrev pub faulty : {A : Type 0} → List ℕ → Reading A
faulty path = plain (Err (BadConfig path))

abbrev pub patterns_in : List ℕ → List Matcher → List (List ℕ × Text)
patterns_in path matchers = map (λ matcher. (path, matcher.value)) (filter (λ matcher. takes_pattern matcher.operator) matchers)

-- matchers at one path
abbrev pub matchers_met : List ℕ → List Matcher → Reading (List Matcher)
matchers_met path matchers = record { value = Ok matchers; patterns = patterns_in path matchers }

abbrev pub value_after : {A B : Type 0} → Result A Refusal → (A → Reading B) → Result B Refusal
value_after (Ok x) f = (f x).value
value_after (Err e) f = Err e

abbrev pub patterns_after : {A B : Type 0} → Result A Refusal → (A → Reading B) → List (List ℕ × Text)
patterns_after (Ok x) f = (f x).patterns
patterns_after (Err e) f = []

-- a part, and then the rest of the reading, unless the part is faulty
unfoldable pub next : {A B : Type 0} → Reading A → (A → Reading B) → Reading B
next part rest = record { value = value_after part.value rest; patterns = part.patterns ++ patterns_after part.value rest }

infixl 10 ◌>>=◌
abbrev pub ◌>>=◌ : {A B : Type 0} → Reading A → (A → Reading B) → Reading B
part >>= rest = next part rest

-- a member that may be absent, added to what was read before
abbrev pub if_present : {A : Type 0} → (Data → A → Reading A) → Option Data → A → Reading A
if_present f None a = give a
if_present f (Some d) a = f d a

-- each item of a list, from index i on, added to what was read before
abbrev pub items_in_turn : {A : Type 0} → (ℕ → Data → A → Reading A) → ℕ → Items → A → Reading A
items_in_turn f i no_items a = give a
items_in_turn f i (item d ds) a = f i d a >>= items_in_turn f (i + 1) ds

-- each member, by key, added to what was read before
abbrev pub members_in_turn : {A : Type 0} → (List ℕ → Data → A → Reading A) → Members → A → Reading A
members_in_turn f no_members a = give a
members_in_turn f (member k d ms) a = f k d a >>= members_in_turn f ms

-- one of these patterns may be refused by `regex`, and its path is the fault
abbrev pub IsBadPattern : List (List ℕ × Text) → Refusal → Type 0
IsBadPattern patterns refusal = (path : List ℕ) × (text : Text) × Contains patterns (path, text) × MayRefuse text × (refusal ≡ BadConfig path)

-- what a reading may return: what is read if all patterns are good, or the refusal of a pattern
abbrev pub MayGive : {A : Type 0} → Reading A → Result A Refusal → Type 0
MayGive reading (Ok a) = reading.value ≡ Ok a
MayGive reading (Err refusal) = (reading.value ≡ Err refusal) ⊎ IsBadPattern reading.patterns refusal
