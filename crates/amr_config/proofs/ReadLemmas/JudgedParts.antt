-- What is read of members without patterns states what is there, and a refusal is that of the first fault.
use Rattle.std.proofs.Common.{◌≡◌, ℕ, ◌+◌, Bool, true, false, not, ◌||◌, if◌then◌else◌, List, [], ◌∷◌, ◌++◌, map, Option, Some, None, refl, sym, ap, ◌∙◌, codes, ltb→lt, option_and_then, unwrap_or, nat_lt, arith}
use Rattle.std.specs.List.{list_any}
use Rattle.std.specs.Option.{option_map_or}
use Rattle.std.specs.Ordering.{eq_by_cmp}
use Rattle.std.proofs.lemmas.List.{append-nil, map_push}
use Rattle.serde_json.specs.Data.{Data, Items, no_items, item}
use Rattle.serde_json.specs.Find.{as_str, as_array}
use Rattle.amr_labels.specs.Labels.{Text, text_cmp}
use Rattle.amr_time.specs.IntervalTexts.{time_at, end_time_at}
use Rattle.amr_time.specs.SpanRead.{span_of}
use Rattle.amr_config.specs.declared.stated.interval.NamedInterval.{NamedInterval}
use Rattle.amr_config.specs.declared.read.read_intervals.Field.TheVariants.{Weekdays, Months, Years}
use Rattle.amr_config.specs.Read.Paths.{under, item_path}
use Rattle.amr_config.specs.Read.Members.{member_of, optional_member, or_faulty, text_at, span_at, text_into, texts_at}
use Rattle.amr_config.specs.Read.Readings.{give, faulty, next, items_in_turn}
use Rattle.amr_config.specs.Read.ReadIntervals.{range_in, day_range_in, range_into, ranges_at, time_of, times_from, time_range_at, time_range_into, times_at, is_utc, location_at, interval_member_at, interval_member_into, interval_members_at, is_taken, new_name_at, interval_at, interval_into, intervals_from, intervals_at, is_defined, name_into, names_at}
use Rattle.amr_config.specs.Read.Timeout.{timeout_in, timeout_at}
use Rattle.amr_config.specs.Read.Table.{IsText, IsDuration, IsListOf, StatesEach, StatesIf, States, StatesOr, HasAt, StatesTimeout, IsTime, IsTimeRange, IsRange, IsIntervalMember, IsInterval, IsDefinedName}
use Rattle.amr_config.specs.Read.Faults.{unless_some, unless, spelled_found, text_found, object_found, list_found, if_there, at, global_found, range_found, start_before_end, time_in, time_range_found, location_found, interval_member_found, new_name_found, interval_found, name_in, intervals_found, names_in, interval_list_found, defined_name_found, names_under}
use Rattle.amr_config.proofs.ReadLemmas.Judged.{Judged, by_findings, judged_ok, judged_then, judged_as, judged_map, judged_or_faulty, judged_if, judged_stated, judged_needed, judged_there, judged_text, judged_object, Adds, AddsEach, adds_none, adds_more, judged_list, judged_list_of, judged_unless}

-- ---- texts and durations

judged_spelled : {A : Type 0} (spelled : Text → Option A) (path : List ℕ) (d : Data) → Judged (next (text_at path d) (λ text. or_faulty path (spelled text))) (spelled_found spelled path d) (λ x. (text : Text) × IsText d text × (spelled text ≡ Some x))
judged_spelled spelled path d =
    judged_there path (as_str d) (λ text. or_faulty path (spelled text)) (λ o. unless_some path (option_and_then spelled o)) _ refl (λ text is.
    judged_or_faulty path (spelled text) _ (λ x e. (text, is, e)))

pub judged_span : (path : List ℕ) (d : Data) → Judged (span_at path d) (spelled_found span_of path d) (IsDuration d)
unfolding span_at
judged_span = judged_spelled span_of

pub judged_texts : (path : List ℕ) (d : Data) → Judged (texts_at path d) (list_found text_found path d) (IsListOf IsText d)
unfolding texts_at text_into
judged_texts = judged_list_of text_at text_found IsText judged_text

-- ---- time intervals

time_there : (spelled : Text → Option ℕ) (key : Text) (d : Data) (time : ℕ) → HasAt (IsTime spelled) key d time → time_in spelled key d ≡ Some time
time_there spelled key d time (v, at, (text, is, spells)) = grind arith

judged_time_range : (path : List ℕ) (d : Data) → Judged (time_range_at path d) (time_range_found path d) (IsTimeRange d)
unfolding time_range_at time_of
judged_time_range path d =
    judged_then _ _ _ _ _ _ (judged_object path d) (λ whole object.
    judged_then _ _ _ _ _ _ (judged_needed (time_of end_time_at) (spelled_found end_time_at) (IsTime end_time_at) path (codes "end_time") d (judged_spelled end_time_at _)) (λ end has_end.
    judged_then _ _ _ _ _ _ (judged_needed (time_of time_at) (spelled_found time_at) (IsTime time_at) path (codes "start_time") d (judged_spelled time_at _)) (λ start has_start.
    by_findings (times_from path start end) (unless path (nat_lt start end)) _ (IsTimeRange d)
    (sym (ap (λ o. unless path (start_before_end o (time_in end_time_at (codes "end_time") d))) (time_there time_at (codes "start_time") d start has_start) ∙ ap (λ o. unless path (start_before_end (Some start) o)) (time_there end_time_at (codes "end_time") d end has_end)))
    (judged_if (nat_lt start end) (record { start = start; end = end }) path (IsTimeRange d) (λ lt. record { start = has_start; end = has_end; before = ltb→lt start end (rw lt tt) })))))

abbrev IsLocation : Data → Bool → Type 0
IsLocation d b = Unit {0}

judged_location : (path : List ℕ) (d : Data) → Judged (location_at path d) (location_found path d) (IsLocation d)
unfolding location_at
judged_location path d =
    judged_there path (as_str d) (λ text. if is_utc text then give true else faulty path) (λ o. unless path (option_map_or is_utc o false)) (IsLocation d) refl (λ text is.
    judged_if (is_utc text) true path (IsLocation d) (λ utc. tt))

judged_ranges_under : {A : Type 0} (reads : Data → Option A) (path key : List ℕ) (d : Data) → Judged (optional_member (ranges_at reads) path key d) (at (list_found (range_found reads)) path key d) (States (IsListOf (IsRange reads)) key d)
unfolding ranges_at range_into
judged_ranges_under reads path key d =
    judged_stated (ranges_at reads) (list_found (range_found reads)) (IsListOf (IsRange reads)) path key d
    (judged_list_of (λ path d. or_faulty path (reads d)) (range_found reads) (IsRange reads) (λ path d. judged_or_faulty path (reads d) (IsRange reads d) (λ x is. is)) (under path key))

judged_interval_member : (path : List ℕ) (d : Data) → Judged (interval_member_at path d) (interval_member_found path d) (IsIntervalMember d)
unfolding interval_member_at times_at time_range_into
judged_interval_member path d =
    judged_then _ _ _ _ _ _ (judged_object path d) (λ whole object.
    judged_then _ _ _ _ _ _ (judged_ranges_under day_range_in path (codes "days_of_month") d) (λ days has_days.
    judged_then _ _ _ _ _ _ (judged_stated location_at location_found IsLocation path (codes "location") d (judged_location _)) (λ location has_location.
    judged_then _ _ _ _ _ _ (judged_ranges_under (range_in Months) path (codes "months") d) (λ months has_months.
    judged_then _ _ _ _ _ _ (judged_stated times_at (list_found time_range_found) (IsListOf IsTimeRange) path (codes "times") d (judged_list_of time_range_at time_range_found IsTimeRange judged_time_range _)) (λ times has_times.
    judged_then _ _ _ _ _ _ (judged_ranges_under (range_in Weekdays) path (codes "weekdays") d) (λ weekdays has_weekdays.
    judged_map _ _ _ _ _ (judged_ranges_under (range_in Years) path (codes "years") d) (λ years has_years.
    record { days_of_month = has_days; months = has_months; times = has_times; weekdays = has_weekdays; years = has_years })))))))

-- ---- intervals with names of their own

abbrev names_of : List NamedInterval → List Text
names_of intervals = map (λ (interval : NamedInterval). interval.name) intervals

same_taken : (name : Text) (intervals : List NamedInterval) → list_any (λ other. eq_by_cmp text_cmp other name) (names_of intervals) ≡ is_taken name intervals
same_taken name [] = refl
same_taken name (interval ∷ intervals) = ap (λ b. eq_by_cmp text_cmp interval.name name || b) (same_taken name intervals)

judged_new_name : (intervals : List NamedInterval) (path : List ℕ) (d : Data) → Judged (new_name_at intervals path d) (new_name_found (names_of intervals) path d) (IsText d)
unfolding new_name_at
judged_new_name intervals path d =
    judged_there path (as_str d) (λ name. if is_taken name intervals then faulty path else give name) (λ o. unless path (option_map_or (λ name. not (list_any (λ other. eq_by_cmp text_cmp other name) (names_of intervals))) o false)) (IsText d) refl (λ name is.
    by_findings _ (unless path (not (is_taken name intervals))) _ (IsText d) (ap (λ b. unless path (not b)) (sym (same_taken name intervals)))
    (judged_unless (is_taken name intervals) name path (IsText d) is))

judged_interval : (intervals : List NamedInterval) (path : List ℕ) (d : Data) → Judged (interval_at intervals path d) (interval_found (names_of intervals) path d) (IsInterval d)
unfolding interval_at interval_members_at interval_member_into
judged_interval intervals path d =
    judged_then _ _ _ _ _ _ (judged_object path d) (λ whole object.
    judged_then _ _ _ _ _ _ (judged_needed (new_name_at intervals) (new_name_found (names_of intervals)) IsText path (codes "name") d (judged_new_name intervals _)) (λ name has_name.
    judged_map _ _ _ _ _ (judged_needed interval_members_at (list_found interval_member_found) (IsListOf IsIntervalMember) path (codes "time_intervals") d (judged_list_of interval_member_at interval_member_found IsIntervalMember judged_interval_member _)) (λ members has_members.
    record { name = has_name; members = has_members })))

name_there : (d : Data) (interval : NamedInterval) → IsInterval d interval → name_in d ≡ interval.name ∷ []
name_there d interval is = let (v, at, text) = is.name in grind arith

names_after : (d : Data) (i : ℕ) (before after : List NamedInterval) → Adds (λ i. IsInterval) i d before after → names_of before ++ name_in d ≡ names_of after
names_after d i before after (interval, adds, is) = grind (arith, name_there d interval is, map_push (λ (other : NamedInterval). other.name) before interval)

judged_intervals : (path : List ℕ) (i : ℕ) (ds : Items) (intervals : List NamedInterval) → Judged (items_in_turn (interval_into path) i ds intervals) (intervals_found (names_of intervals) path i ds) (AddsEach (λ i. IsInterval) i ds intervals)
unfolding interval_into
judged_intervals path i no_items intervals = judged_ok intervals _ (adds_none (λ i. IsInterval) i intervals)
judged_intervals path i (item d ds) intervals =
    judged_then (interval_into path i d intervals) (items_in_turn (interval_into path) (i + 1) ds) (interval_found (names_of intervals) (item_path path i) d) (intervals_found (names_of intervals ++ name_in d) path (i + 1) ds) (Adds (λ i. IsInterval) i d intervals) (AddsEach (λ i. IsInterval) i (item d ds) intervals) (judged_map _ (λ interval. intervals ++ interval ∷ []) _ _ _ (judged_interval intervals (item_path path i) d) (λ interval is. (interval, refl, is))) (λ one adds.
    by_findings _ (intervals_found (names_of one) path (i + 1) ds) _ _ (ap (λ names. intervals_found names path (i + 1) ds) (sym (names_after d i intervals one adds)))
    (judged_as (items_in_turn (interval_into path) (i + 1) ds one) (intervals_found (names_of one) path (i + 1) ds) (AddsEach (λ i. IsInterval) (i + 1) ds one) (AddsEach (λ i. IsInterval) i (item d ds) intervals) (judged_intervals path (i + 1) ds one) (λ after rest. adds_more (λ i. IsInterval) i d ds intervals one after adds rest)))

-- the intervals of a list that may be absent, after those before it
abbrev pub AddsIntervals : Text → Data → List NamedInterval → List NamedInterval → Type 0
AddsIntervals key d before after = (more : List NamedInterval) × (after ≡ before ++ more) × StatesOr [] (IsListOf IsInterval) key d more

judged_from : (path : List ℕ) (o : Option Data) (intervals : List NamedInterval) → Judged (intervals_from path o intervals) (if_there (λ v. interval_list_found (names_of intervals) path (as_array v)) o) (λ after. (more : List NamedInterval) × (after ≡ intervals ++ more) × (found : Option (List NamedInterval)) × StatesIf (IsListOf IsInterval) o found × (more ≡ unwrap_or found []))
judged_from path None intervals = judged_ok intervals _ ([], sym (append-nil intervals), None, tt, refl)
judged_from path (Some d) intervals =
    judged_there path (as_array d) (λ ds. items_in_turn (interval_into path) 0 ds intervals) (interval_list_found (names_of intervals) path) _ refl (λ ds is.
    judged_as (items_in_turn (interval_into path) 0 ds intervals) (intervals_found (names_of intervals) path 0 ds) _ _ (judged_intervals path 0 ds intervals) (λ after (more, adds, are). (more, adds, Some more, (ds, is, are), refl)))

pub judged_defined : (key : Text) (d : Data) (intervals : List NamedInterval) → Judged (intervals_at key d intervals) (if_there (λ v. interval_list_found (names_of intervals) key (as_array v)) (member_of key d)) (AddsIntervals key d intervals)
unfolding intervals_at
judged_defined key d intervals = judged_as _ _ _ _ (judged_from key (member_of key d) intervals) (λ after (more, adds, found, states, is). (more, adds, (found, states, is)))

-- the names that a list defines are those of what is read
names_read : (i : ℕ) (ds : Items) (intervals : List NamedInterval) → StatesEach (λ i. IsInterval) i ds intervals → names_in ds ≡ names_of intervals
names_read i no_items [] are = refl
names_read i (item d ds) (interval ∷ intervals) are = grind (arith, name_there d interval are.0, names_read (i + 1) ds intervals are.1)
names_read i ds intervals are = absurd are

pub names_under_read : (key : Text) (d : Data) (intervals : List NamedInterval) → StatesOr [] (IsListOf IsInterval) key d intervals → names_under key d ≡ names_of intervals
names_under_read key d intervals (found, states, is) = go (member_of key d) found states is
  where
    go : (o : Option Data) (found : Option (List NamedInterval)) → StatesIf (IsListOf IsInterval) o found → intervals ≡ unwrap_or found [] → option_map_or names_in (option_and_then as_array o) [] ≡ names_of intervals
    go None None states is = sym (ap names_of is)
    go (Some v) (Some more) (ds, at, are) is = grind (arith, names_read 0 ds more are)
    go o found states is = absurd states

-- ---- names at routes

pub judged_names : (whole : Data) (path : List ℕ) (d : Data) → Judged (names_at whole path d) (list_found (defined_name_found whole) path d) (IsListOf (IsDefinedName whole) d)
unfolding names_at name_into
judged_names whole path d =
    judged_list (name_into whole path) (defined_name_found whole) path d (λ i. IsDefinedName whole) (λ i d names.
    judged_there (item_path path i) (as_str d) (λ name. if is_defined whole name then give (names ++ name ∷ []) else faulty (item_path path i)) (λ o. unless (item_path path i) (option_map_or (is_defined whole) o false)) (Adds (λ i. IsDefinedName whole) i d names) refl (λ name is.
    judged_if (is_defined whole name) (names ++ name ∷ []) (item_path path i) (Adds (λ i. IsDefinedName whole) i d names) (λ defined. (name, refl, (is, defined)))))

-- ---- the timeout

pub judged_timeout : (d : Data) → Judged (timeout_at d) (object_found [] d ++ at global_found [] (codes "global") d) (StatesTimeout d)
unfolding timeout_at timeout_in
judged_timeout d =
    judged_then _ _ _ _ _ _ (judged_object [] d) (λ whole object.
    judged_map _ _ _ _ _ (judged_stated timeout_in global_found (States IsDuration (codes "resolve_timeout")) [] (codes "global") d (λ v.
    judged_then _ _ _ _ _ _ (judged_object (codes "global") v) (λ whole object.
    judged_stated span_at (spelled_found span_of) IsDuration (codes "global") (codes "resolve_timeout") v (judged_span _)))) (λ found states. (found, states, refl)))
