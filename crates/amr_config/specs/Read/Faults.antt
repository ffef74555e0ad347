-- The faulty values of a configuration, in the order of reading: members by key in byte order,
-- lists in order.
use Rattle.std.specs.Prelude.{ℕ, zero, suc, ◌+◌, List, [], ◌∷◌, ◌++◌, Bool, true, false, not, ◌||◌, map, length, Option, Some, None, option_and_then, is_some, codes, if◌then◌else◌, ◌==◌, nat_lt}
use Rattle.std.specs.List.{filter, list_any}
use Rattle.std.specs.Option.{option_map_or}
use Rattle.std.specs.Ordering.{eq_by_cmp}
use Rattle.serde_json.specs.Data.{Data, Items, no_items, item, Members, no_members, member}
use Rattle.serde_json.specs.Find.{as_str, as_bool, as_array, as_object}
use Rattle.amr_labels.specs.Labels.{Text, text_cmp}
use Rattle.amr_labels.specs.Matcher.Matchers.{Matcher, takes_pattern}
use Rattle.amr_labels.specs.Matcher.MatcherReading.{matchers_of}
use Rattle.amr_labels.specs.declared.matcher.Operator.{Operator}
use Rattle.amr_labels.specs.declared.matcher.Operator.TheVariants.{Equal, Matches}
use Rattle.amr_time.specs.IntervalTexts.{time_at, end_time_at}
use Rattle.amr_time.specs.SpanRead.{span_of}
use Rattle.amr_config.specs.declared.read.read_intervals.Field.TheVariants.{Weekdays, Months, Years}
use Rattle.amr_config.specs.Read.Paths.{under, item_path}
use Rattle.amr_config.specs.Read.Members.{unless_null, member_of}
use Rattle.amr_config.specs.Read.ReadIntervals.{range_in, day_range_in, is_defined, is_utc}
use Rattle.amr_config.specs.Read.ReadReceivers.{default_of, is_on_side, kind_key}

-- what is found at a path: a fault, or a pattern, which `regex` may refuse
pub data Finding : Type 0 where
  Fault : List ℕ → Finding
  Pattern : List ℕ → Text → Finding

-- the path of the first fault
abbrev pub first_fault : List Finding → Option (List ℕ)
first_fault [] = None
first_fault (Fault path ∷ findings) = Some path
first_fault (Pattern path text ∷ findings) = first_fault findings

-- the patterns before it
abbrev pub patterns_before : List Finding → List (List ℕ × Text)
patterns_before [] = []
patterns_before (Fault path ∷ findings) = []
patterns_before (Pattern path text ∷ findings) = (path, text) ∷ patterns_before findings

-- ---- shapes

abbrev pub unless_some : {A : Type 0} → List ℕ → Option A → List Finding
unless_some path None = Fault path ∷ []
unless_some path (Some x) = []

abbrev pub unless : List ℕ → Bool → List Finding
unless path true = []
unless path false = Fault path ∷ []

-- a text that the function reads
abbrev pub spelled_found : {A : Type 0} → (Text → Option A) → List ℕ → Data → List Finding
spelled_found spelled path d = unless_some path (option_and_then spelled (as_str d))

abbrev pub text_found : List ℕ → Data → List Finding
text_found path d = unless_some path (as_str d)

abbrev pub flag_found : List ℕ → Data → List Finding
flag_found path d = unless_some path (as_bool d)

abbrev pub object_found : List ℕ → Data → List Finding
object_found path d = unless_some path (as_object d)

abbrev pub each_found : (List ℕ → Data → List Finding) → List ℕ → ℕ → Items → List Finding
each_found found path i no_items = []
each_found found path i (item d ds) = found (item_path path i) d ++ each_found found path (i + 1) ds

abbrev pub items_found : (List ℕ → Data → List Finding) → List ℕ → Option Items → List Finding
items_found found path None = Fault path ∷ []
items_found found path (Some ds) = each_found found path 0 ds

abbrev pub list_found : (List ℕ → Data → List Finding) → List ℕ → Data → List Finding
list_found found path d = items_found found path (as_array d)

-- ---- members

abbrev pub if_there : (Data → List Finding) → Option Data → List Finding
if_there found None = []
if_there found (Some d) = found d

-- a member that may be absent
abbrev pub at : (List ℕ → Data → List Finding) → List ℕ → Text → Data → List Finding
at found path key d = if_there (found (under path key)) (member_of key d)

abbrev pub if_there_or : List Finding → (Data → List Finding) → Option Data → List Finding
if_there_or missing found None = missing
if_there_or missing found (Some d) = found d

-- a member that must be present
abbrev pub needed_at : (List ℕ → Data → List Finding) → List ℕ → Text → Data → List Finding
needed_at found path key d = if_there_or (Fault (under path key) ∷ []) (found (under path key)) (member_of key d)

-- ---- matchers

abbrev pub patterns_found : List ℕ → List Matcher → List Finding
patterns_found path matchers = map (λ matcher. Pattern path matcher.value) (filter (λ matcher. takes_pattern matcher.operator) matchers)

abbrev pub matchers_found : List ℕ → Option (List Matcher) → List Finding
matchers_found path None = Fault path ∷ []
matchers_found path (Some matchers) = patterns_found path matchers

-- a text of matchers
abbrev pub matcher_text_found : List ℕ → Data → List Finding
matcher_text_found path d = matchers_found path (option_and_then matchers_of (as_str d))

-- a label's value in a matcher; the label's name must not be empty
abbrev pub value_found : Operator → Text → List ℕ → Data → List Finding
value_found operator name path d =
    text_found path d ++ (if length name == 0 then Fault path ∷ [] else option_map_or (λ value. patterns_found path (record { name = name; operator = operator; value = value } ∷ [])) (as_str d) [])

abbrev pub values_found : Operator → List ℕ → Members → List Finding
values_found operator path no_members = []
values_found operator path (member name d ms) = if_there (value_found operator name (under path name)) (unless_null (Some d)) ++ values_found operator path ms

abbrev pub members_found : Operator → List ℕ → Option Members → List Finding
members_found operator path None = Fault path ∷ []
members_found operator path (Some ms) = values_found operator path ms

-- an object of texts
abbrev pub match_object_found : Operator → List ℕ → Data → List Finding
match_object_found operator path d = members_found operator path (as_object d)

abbrev pub match_found : Text → Text → Text → List ℕ → Data → List Finding
match_found equal patterns texts path d =
    at (match_object_found Equal) path equal d ++ (at (match_object_found Matches) path patterns d ++ at (list_found matcher_text_found) path texts d)

-- ---- the timeout and the rules

abbrev pub global_found : List ℕ → Data → List Finding
global_found path d = object_found path d ++ at (spelled_found span_of) path (codes "resolve_timeout") d

abbrev pub rule_found : List ℕ → Data → List Finding
rule_found path d =
    object_found path d
    ++ (at (list_found text_found) path (codes "equal") d
    ++ (match_found (codes "source_match") (codes "source_match_re") (codes "source_matchers") path d
    ++ match_found (codes "target_match") (codes "target_match_re") (codes "target_matchers") path d))

-- ---- time intervals

abbrev pub range_found : {A : Type 0} → (Data → Option A) → List ℕ → Data → List Finding
range_found reads path d = unless_some path (reads d)

-- the start is before the end, if both can be read
abbrev pub start_before_end : Option ℕ → Option ℕ → Bool
start_before_end (Some start) (Some end) = nat_lt start end
start_before_end (Some start) None = true
start_before_end None end = true

abbrev pub time_in : (Text → Option ℕ) → Text → Data → Option ℕ
time_in spelled key d = option_and_then spelled (option_and_then as_str (member_of key d))

abbrev pub time_range_found : List ℕ → Data → List Finding
time_range_found path d =
    object_found path d
    ++ (needed_at (spelled_found end_time_at) path (codes "end_time") d
    ++ (needed_at (spelled_found time_at) path (codes "start_time") d
    ++ unless path (start_before_end (time_in time_at (codes "start_time") d) (time_in end_time_at (codes "end_time") d))))

abbrev pub location_found : List ℕ → Data → List Finding
location_found path d = unless path (option_map_or is_utc (as_str d) false)

abbrev pub interval_member_found : List ℕ → Data → List Finding
interval_member_found path d =
    object_found path d
    ++ (at (list_found (range_found day_range_in)) path (codes "days_of_month") d
    ++ (at location_found path (codes "location") d
    ++ (at (list_found (range_found (range_in Months))) path (codes "months") d
    ++ (at (list_found time_range_found) path (codes "times") d
    ++ (at (list_found (range_found (range_in Weekdays))) path (codes "weekdays") d
    ++ at (list_found (range_found (range_in Years))) path (codes "years") d)))))

-- a text that is none of these
abbrev pub new_name_found : List Text → List ℕ → Data → List Finding
new_name_found taken path d = unless path (option_map_or (λ name. not (list_any (λ other. eq_by_cmp text_cmp other name) taken)) (as_str d) false)

abbrev pub interval_found : List Text → List ℕ → Data → List Finding
interval_found taken path d =
    object_found path d
    ++ (needed_at (new_name_found taken) path (codes "name") d
    ++ needed_at (list_found interval_member_found) path (codes "time_intervals") d)

-- the name of an interval, if it has one
abbrev pub name_in : Data → List Text
name_in d = option_map_or (λ name. name ∷ []) (option_and_then as_str (member_of (codes "name") d)) []

-- intervals whose names are none of these and differ from each other
abbrev pub intervals_found : List Text → List ℕ → ℕ → Items → List Finding
intervals_found taken path i no_items = []
intervals_found taken path i (item d ds) = interval_found taken (item_path path i) d ++ intervals_found (taken ++ name_in d) path (i + 1) ds

abbrev pub names_in : Items → List Text
names_in no_items = []
names_in (item d ds) = name_in d ++ names_in ds

abbrev pub interval_list_found : List Text → List ℕ → Option Items → List Finding
interval_list_found taken path None = Fault path ∷ []
interval_list_found taken path (Some ds) = intervals_found taken path 0 ds

-- ---- receivers

-- an object that states `send_resolved`, or whose integration has a default
abbrev pub entry_found : Text → List ℕ → Data → List Finding
entry_found kind path d =
    object_found path d
    ++ (at flag_found path (codes "send_resolved") d
    ++ unless path (is_some (member_of (codes "send_resolved") d) || is_some (default_of kind)))

abbrev pub entries_found : List ℕ → Data → Option Text → List Finding
entries_found path d None = []
entries_found path d (Some kind) = if_there (list_found (entry_found kind) path) (unless_null (Some d))

-- the entries under the keys that sort before `name`, or after it
abbrev pub kinds_found : Bool → List ℕ → Members → List Finding
kinds_found before path no_members = []
kinds_found before path (member key d ms) = (if is_on_side before key then entries_found (under path key) d (kind_key key) else []) ++ kinds_found before path ms

abbrev pub side_found : Bool → List ℕ → Option Members → List Finding
side_found before path None = Fault path ∷ []
side_found before path (Some ms) = kinds_found before path ms

-- a text that isn't empty
abbrev pub receiver_name_found : List ℕ → Data → List Finding
receiver_name_found path d = unless path (option_map_or (λ name. not (length name == 0)) (as_str d) false)

abbrev pub receiver_found : List ℕ → Data → List Finding
receiver_found path d =
    side_found true path (as_object d) ++ (needed_at receiver_name_found path (codes "name") d ++ side_found false path (as_object d))

-- ---- routes

-- a name that the whole configuration defines
abbrev pub defined_name_found : Data → List ℕ → Data → List Finding
defined_name_found whole path d = unless path (option_map_or (is_defined whole) (as_str d) false)

-- a route and those below it, down to n levels
unfoldable pub route_found : Data → ℕ → List ℕ → Data → List Finding
route_found whole zero path d = []
route_found whole (suc left) path d =
    object_found path d
    ++ (at (list_found (defined_name_found whole)) path (codes "active_time_intervals") d
    ++ (at flag_found path (codes "continue") d
    ++ (at (list_found text_found) path (codes "group_by") d
    ++ (at (spelled_found span_of) path (codes "group_interval") d
    ++ (at (spelled_found span_of) path (codes "group_wait") d
    ++ (match_found (codes "match") (codes "match_re") (codes "matchers") path d
    ++ (at (list_found (defined_name_found whole)) path (codes "mute_time_intervals") d
    ++ (at text_found path (codes "receiver") d
    ++ (at (spelled_found span_of) path (codes "repeat_interval") d
    ++ at (list_found (route_found whole left)) path (codes "routes") d)))))))))

-- ---- a whole configuration

abbrev pub names_under : Text → Data → List Text
names_under key d = option_map_or names_in (option_and_then as_array (member_of key d)) []

unfoldable pub findings_of : Data → List Finding
findings_of d =
    object_found [] d
    ++ (at global_found [] (codes "global") d
    ++ (at (list_found rule_found) [] (codes "inhibit_rules") d
    ++ (if_there (λ v. interval_list_found [] (codes "mute_time_intervals") (as_array v)) (member_of (codes "mute_time_intervals") d)
    ++ (at (list_found receiver_found) [] (codes "receivers") d
    ++ (needed_at (route_found d 32) [] (codes "route") d
    ++ if_there (λ v. interval_list_found (names_under (codes "mute_time_intervals") d) (codes "time_intervals") (as_array v)) (member_of (codes "time_intervals") d))))))
