-- Reading matchers, in the order of the members that state them.
use Rattle.std.specs.Prelude.{ℕ, List, [], ◌∷◌, ◌++◌, length, Option, Some, None, if◌then◌else◌, ◌==◌}
use Rattle.serde_json.specs.Data.{Data}
use Rattle.amr_labels.specs.Labels.{Text}
use Rattle.amr_labels.specs.Matcher.Matchers.{Matcher}
use Rattle.amr_labels.specs.Matcher.MatcherReading.{matchers_of}
use Rattle.amr_labels.specs.declared.matcher.Operator.{Operator}
use Rattle.amr_labels.specs.declared.matcher.Operator.TheVariants.{Equal, Matches}
use Rattle.amr_config.specs.Read.Paths.{under, item_path}
use Rattle.amr_config.specs.Read.Members.{unless_null, member_of, text_at, items_at, members_at}
use Rattle.amr_config.specs.Read.Readings.{Reading, give, faulty, ◌>>=◌, matchers_met, if_present, items_in_turn, members_in_turn}

-- the matcher of a label's name and value; the name must not be empty
unfoldable pub matcher_at : Operator → List ℕ → Text → Text → Reading (List Matcher)
matcher_at operator path name value = if length name == 0 then faulty path else matchers_met path (record { name = name; operator = operator; value = value } ∷ [])

-- the matcher of a value that is present, added to those before it
unfoldable pub stated_into : Operator → List ℕ → Text → Data → List Matcher → Reading (List Matcher)
stated_into operator path name d matchers = do
  value ← text_at path d
  more ← matcher_at operator path name value
  give (matchers ++ more)

-- a member of an object of labels, added to the matchers before it
unfoldable pub matcher_into : Operator → List ℕ → Text → Data → List Matcher → Reading (List Matcher)
matcher_into operator path name d matchers = if_present (stated_into operator (under path name) name) (unless_null (Some d)) matchers

-- an object of labels, by name
unfoldable pub members_into : Operator → List ℕ → Data → List Matcher → Reading (List Matcher)
members_into operator path d matchers = members_at path d >>= λ members. members_in_turn (matcher_into operator path) members matchers

unfoldable pub object_into : Operator → List ℕ → Text → Data → List Matcher → Reading (List Matcher)
object_into operator path key d matchers = if_present (members_into operator (under path key)) (member_of key d) matchers

-- the matchers of a text; their patterns are at the path of the text
abbrev pub spelled_at : List ℕ → Option (List Matcher) → Reading (List Matcher)
spelled_at path None = faulty path
spelled_at path (Some matchers) = matchers_met path matchers

-- the next matcher text of a list, added to the matchers before it
unfoldable pub spelled_into : List ℕ → ℕ → Data → List Matcher → Reading (List Matcher)
spelled_into path i d matchers = do
  text ← text_at (item_path path i) d
  more ← spelled_at (item_path path i) (matchers_of text)
  give (matchers ++ more)

-- a list of matcher texts
unfoldable pub texts_into : List ℕ → Data → List Matcher → Reading (List Matcher)
texts_into path d matchers = items_at path d >>= λ ds. items_in_turn (spelled_into path) 0 ds matchers

unfoldable pub list_into : List ℕ → Text → Data → List Matcher → Reading (List Matcher)
list_into path key d matchers = if_present (texts_into (under path key)) (member_of key d) matchers

-- the matchers under three keys: an object of values, then an object of patterns, then a list of
-- matcher texts
unfoldable pub matchers_at : List ℕ → Text → Text → Text → Data → Reading (List Matcher)
matchers_at path equal patterns texts d = do
  first ← object_into Equal path equal d []
  both ← object_into Matches path patterns d first
  list_into path texts d both
