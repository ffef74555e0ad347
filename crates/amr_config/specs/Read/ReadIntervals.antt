-- Reading the time intervals of a configuration, and the names by which routes refer to them.
use Rattle.std.specs.Prelude.{ℕ, List, [], ◌∷◌, ◌++◌, Bool, true, false, ◌||◌, Option, Some, None, codes, if◌then◌else◌, nat_lt, option_and_then, option_map}
use Rattle.std.specs.List.{list_any}
use Rattle.std.specs.Option.{option_or, option_map_or}
use Rattle.std.specs.Ordering.{eq_by_cmp}
use Rattle.serde_json.specs.Data.{Data}
use Rattle.serde_json.specs.Find.{as_str, as_number, as_u64, as_i64}
use Rattle.amr_labels.specs.Labels.{Text, text_cmp}
use Rattle.amr_time.specs.IntervalTexts.{time_at, end_time_at, weekdays_at, months_at, years_at, days_at, month_numbered, single, day_numbered}
use Rattle.amr_time.specs.declared.intervals.TimeRange.{TimeRange}
use Rattle.amr_time.specs.declared.intervals.Range.{Range}
use Rattle.amr_time.specs.declared.intervals.DayRange.{DayRange}
use Rattle.amr_time.specs.declared.intervals.IntervalMember.{IntervalMember}
use Rattle.amr_config.specs.declared.stated.interval.NamedInterval.{NamedInterval}
use Rattle.amr_config.specs.declared.read.read_intervals.Field.{Field}
use Rattle.amr_config.specs.declared.read.read_intervals.Field.TheVariants.{Weekdays, Months, Years}
use Rattle.amr_config.specs.Read.Paths.{item_path}
use Rattle.amr_config.specs.Read.Members.{any_item, list_in, member_of, optional_member, required_member, or_faulty, text_at, items_at, members_at}
use Rattle.amr_config.specs.Read.Readings.{Reading, give, faulty, ◌>>=◌, items_in_turn}

-- ---- ranges

abbrev pub number_in : Data → Option ℕ
number_in d = option_and_then as_u64 (as_number d)

-- a weekday is a text; a month or a year is a text or a number
abbrev pub range_in : Field → Data → Option Range
range_in Weekdays d = option_and_then weekdays_at (as_str d)
range_in Months d = option_or (option_and_then months_at (as_str d)) (option_and_then month_numbered (number_in d))
range_in Years d = option_or (option_and_then years_at (as_str d)) (option_map single (number_in d))

-- a text or a number
abbrev pub day_range_in : Data → Option DayRange
day_range_in d = option_or (option_and_then days_at (as_str d)) (option_and_then day_numbered (option_and_then as_i64 (as_number d)))

-- the next range of a list, added to those before it
unfoldable pub range_into : {A : Type 0} → (Data → Option A) → List ℕ → ℕ → Data → List A → Reading (List A)
range_into reads path i d ranges = or_faulty (item_path path i) (reads d) >>= λ range. give (ranges ++ range ∷ [])

unfoldable pub ranges_at : {A : Type 0} → (Data → Option A) → List ℕ → Data → Reading (List A)
ranges_at reads path d = items_at path d >>= λ ds. items_in_turn (range_into reads path) 0 ds []

-- ---- times of the day

-- a text that spells a time
unfoldable pub time_of : (List ℕ → Option ℕ) → List ℕ → Data → Reading ℕ
time_of spelled path d = text_at path d >>= λ text. or_faulty path (spelled text)

-- the start must be before the end
abbrev pub times_from : List ℕ → ℕ → ℕ → Reading TimeRange
times_from path start end = if nat_lt start end then give (record { start = start; end = end }) else faulty path

unfoldable pub time_range_at : List ℕ → Data → Reading TimeRange
time_range_at path d = do
  whole ← members_at path d
  end ← required_member (time_of end_time_at) path (codes "end_time") d
  start ← required_member (time_of time_at) path (codes "start_time") d
  times_from path start end

unfoldable pub time_range_into : List ℕ → ℕ → Data → List TimeRange → Reading (List TimeRange)
time_range_into path i d ranges = time_range_at (item_path path i) d >>= λ range. give (ranges ++ range ∷ [])

unfoldable pub times_at : List ℕ → Data → Reading (List TimeRange)
times_at path d = items_at path d >>= λ ds. items_in_turn (time_range_into path) 0 ds []

-- ---- intervals

abbrev pub is_utc : Text → Bool
is_utc text = eq_by_cmp text_cmp text (codes "UTC")

-- the location must be `UTC`, since moments are read in UTC
unfoldable pub location_at : List ℕ → Data → Reading Bool
location_at path d = text_at path d >>= λ text. if is_utc text then give true else faulty path

unfoldable pub interval_member_at : List ℕ → Data → Reading IntervalMember
interval_member_at path d = do
  whole ← members_at path d
  days_of_month ← optional_member (ranges_at day_range_in) path (codes "days_of_month") d
  location ← optional_member location_at path (codes "location") d
  months ← optional_member (ranges_at (range_in Months)) path (codes "months") d
  times ← optional_member times_at path (codes "times") d
  weekdays ← optional_member (ranges_at (range_in Weekdays)) path (codes "weekdays") d
  years ← optional_member (ranges_at (range_in Years)) path (codes "years") d
  give (record { times = times; weekdays = weekdays; days_of_month = days_of_month; months = months; years = years })

unfoldable pub interval_member_into : List ℕ → ℕ → Data → List IntervalMember → Reading (List IntervalMember)
interval_member_into path i d members = interval_member_at (item_path path i) d >>= λ member. give (members ++ member ∷ [])

unfoldable pub interval_members_at : List ℕ → Data → Reading (List IntervalMember)
interval_members_at path d = items_at path d >>= λ ds. items_in_turn (interval_member_into path) 0 ds []

abbrev pub is_taken : Text → List NamedInterval → Bool
is_taken name intervals = list_any (λ interval. eq_by_cmp text_cmp interval.name name) intervals

-- a text that isn't the name of an interval before
unfoldable pub new_name_at : List NamedInterval → List ℕ → Data → Reading Text
new_name_at intervals path d = text_at path d >>= λ name. if is_taken name intervals then faulty path else give name

-- a named interval; its name differs from those before it
unfoldable pub interval_at : List NamedInterval → List ℕ → Data → Reading NamedInterval
interval_at intervals path d = do
  whole ← members_at path d
  name ← required_member (new_name_at intervals) path (codes "name") d
  members ← required_member interval_members_at path (codes "time_intervals") d
  give (record { name = name; interval = record { members = members } })

unfoldable pub interval_into : List ℕ → ℕ → Data → List NamedInterval → Reading (List NamedInterval)
interval_into path i d intervals = interval_at intervals (item_path path i) d >>= λ interval. give (intervals ++ interval ∷ [])

abbrev pub intervals_from : List ℕ → Option Data → List NamedInterval → Reading (List NamedInterval)
intervals_from path None intervals = give intervals
intervals_from path (Some d) intervals = items_at path d >>= λ ds. items_in_turn (interval_into path) 0 ds intervals

-- the intervals under a key of a whole configuration, added to those before them
unfoldable pub intervals_at : List ℕ → Data → List NamedInterval → Reading (List NamedInterval)
intervals_at key d intervals = intervals_from key (member_of key d) intervals

-- ---- the names in a route

-- an object has the name
unfoldable pub has_name : Text → Data → Bool
has_name name d = option_map_or (λ text. eq_by_cmp text_cmp text name) (option_and_then as_str (member_of (codes "name") d)) false

-- the list under a key of the whole configuration has an object with the name
unfoldable pub defines : List ℕ → Data → Text → Bool
defines key whole name = any_item (has_name name) (list_in (member_of key whole))

-- one of the two lists of intervals has an object with the name
unfoldable pub is_defined : Data → Text → Bool
is_defined whole name = defines (codes "mute_time_intervals") whole name || defines (codes "time_intervals") whole name

-- the next name of a list, which the whole configuration must define, added to those before it
unfoldable pub name_into : Data → List ℕ → ℕ → Data → List Text → Reading (List Text)
name_into whole path i d names = text_at (item_path path i) d >>= λ name. if is_defined whole name then give (names ++ name ∷ []) else faulty (item_path path i)

unfoldable pub names_at : Data → List ℕ → Data → Reading (List Text)
names_at whole path d = items_at path d >>= λ ds. items_in_turn (name_into whole path) 0 ds []
