-- The silence that a line of a script posts, if all patterns are good.
use Rattle.std.specs.Prelude.{ℕ, List, codes, Bool, true, false, Option, Some, None, option_map, if◌then◌else◌}
use Rattle.std.specs.List.{list_any}
use Rattle.serde_json.specs.Data.{Data}
use Rattle.serde_json.specs.Find.{get, as_str, as_array}
use Rattle.amr_labels.specs.Labels.{Text, is_empty}
use Rattle.amr_labels.specs.Matcher.Matchers.{Matcher}
use Rattle.amr_labels.specs.declared.matcher.Operator.{Operator}
use Rattle.amr_labels.specs.declared.matcher.Operator.TheVariants.{Equal, NotEqual, Matches, NotMatches}
use Rattle.amr_events.specs.Posts.Ids.{id_of}
use Rattle.amr_config.specs.Read.Members.{unless_null}
use Rattle.amr_events.specs.Shapes.{◌>>=◌, each_item, text_under, flag_under, moment_under}
use Rattle.amr_events.specs.declared.posts.posted_silence.PostedSilence.{PostedSilence}

-- the operator by `isRegex` and `isEqual`
abbrev pub operator_by : Bool → Bool → Operator
operator_by false true = Equal
operator_by false false = NotEqual
operator_by true true = Matches
operator_by true false = NotMatches

unfoldable pub matcher_of : Data → Option Matcher
matcher_of d = do
  name ← text_under (codes "name") d
  value ← text_under (codes "value") d
  is_regex ← flag_under (codes "isRegex") false d
  is_equal ← flag_under (codes "isEqual") true d
  Some (record { name = name; operator = operator_by is_regex is_equal; value = value })

-- the matchers of a list, in order
unfoldable pub matchers_of : Data → Option (List Matcher)
matchers_of d = do
  items ← as_array d
  each_item matcher_of items

-- there are none if a name is empty
abbrev pub if_named : List Matcher → Option (List Matcher)
if_named matchers = if list_any (λ matcher. is_empty matcher.name) matchers then None else Some matchers

-- an id
unfoldable pub id_at : Data → Option ℕ
id_at d = as_str d >>= id_of

-- an id as a text; the empty text names none
unfoldable pub named_id : Text → Option (Option ℕ)
named_id text = if is_empty text then Some None else option_map Some (id_of text)

abbrev pub named_id_at : Option Data → Option (Option ℕ)
named_id_at None = Some None
named_id_at (Some d) = as_str d >>= named_id

-- the silence that the post updates, if it names one
unfoldable pub named_id_in : Data → Option (Option ℕ)
named_id_in silence = named_id_at (unless_null (get (codes "id") silence))

-- the id for a new silence
unfoldable pub new_id_in : Data → Option ℕ
new_id_in line = get (codes "newId") line >>= id_at

-- the silence that a line posts; the line has the new id beside it
unfoldable pub silence_of : Data → Data → Option PostedSilence
silence_of line silence = do
  new_id ← new_id_in line
  id ← named_id_in silence
  stated ← get (codes "matchers") silence
  matchers ← matchers_of stated
  starts_at ← moment_under (codes "startsAt") silence
  ends_at ← moment_under (codes "endsAt") silence
  Some (record { id = id; new_id = new_id; matchers = if_named matchers; starts_at = starts_at; ends_at = ends_at })
