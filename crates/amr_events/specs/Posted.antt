-- The alerts that a line of a script posts.
use Rattle.std.specs.Prelude.{ℕ, zero, suc, ◌||◌, ◌==◌, List, [], ◌∷◌, ◌++◌, map, length, reverse, Bool, codes, Option, Some, None, option_map, replicate, if◌then◌else◌}
use Rattle.std.specs.List.{list_any}
use Rattle.std.specs.Str.{bytes_eq}
use Rattle.serde_json.specs.Data.{Data}
use Rattle.serde_json.specs.Find.{get, as_str, as_array}
use Rattle.amr_labels.specs.Map.{from_entries}
use Rattle.amr_labels.specs.Labels.{Text}
use Rattle.amr_time.specs.Time.{Moment}
use Rattle.amr_time.specs.MomentRead.{moment_at}
use Rattle.amr_events.specs.Actions.Events.{Annotations}
use Rattle.amr_config.specs.Read.Members.{unless_null}
use Rattle.amr_events.specs.Shapes.{◌>>=◌, each_item, texts_in}
use Rattle.amr_events.specs.declared.posts.posted_alert.PostedAlert.{PostedAlert}

-- a fraction of this many zeros
abbrev pub zero_fraction : ℕ → Text
zero_fraction zero = []
zero_fraction (suc n) = 46 ∷ replicate (suc n) 48

-- the first moment of the year 1, with a fraction of this many zeros
abbrev pub mark_with : ℕ → Text
mark_with zeros = codes "0001-01-01T00:00:00" ++ zero_fraction zeros ++ codes "Z"

-- a fraction has at most nine digits
abbrev pub missing_marks : List Text
missing_marks = map mark_with (0 ∷ 1 ∷ 2 ∷ 3 ∷ 4 ∷ 5 ∷ 6 ∷ 7 ∷ 8 ∷ 9 ∷ [])

-- the text means a missing time
unfoldable pub is_missing : Text → Bool
is_missing text = length text == 0 || list_any (λ mark. bytes_eq mark text) missing_marks

-- a time as a text; it may be missing
unfoldable pub time_of : Text → Option (Option Moment)
time_of text = if is_missing text then Some None else option_map Some (moment_at text)

abbrev pub time_at : Option Data → Option (Option Moment)
time_at None = Some None
time_at (Some d) = as_str d >>= time_of

-- the time under a key; it may be missing
unfoldable pub time_in : List ℕ → Data → Option (Option Moment)
time_in key alert = time_at (unless_null (get key alert))

abbrev pub annotations_at : Option Data → Option (List (Text × Text))
annotations_at None = Some []
annotations_at (Some d) = texts_in d

-- if an annotation is repeated, the last counts
unfoldable pub annotations_in : Data → Option Annotations
annotations_in alert = option_map (λ texts. from_entries (reverse texts)) (annotations_at (unless_null (get (codes "annotations") alert)))

unfoldable pub alert_of : Data → Option PostedAlert
alert_of alert = do
  stated ← get (codes "labels") alert
  labels ← texts_in stated
  annotations ← annotations_in alert
  starts_at ← time_in (codes "startsAt") alert
  ends_at ← time_in (codes "endsAt") alert
  Some (record { labels = labels; annotations = annotations; starts_at = starts_at; ends_at = ends_at })

-- the alerts of a list, in order
unfoldable pub alerts_of : Data → Option (List PostedAlert)
alerts_of d = do
  items ← as_array d
  each_item alert_of items
