-- What the value of a configuration states, key by key. A member that is `null` is absent.
use Rattle.std.specs.Prelude.{◌≡◌, ◌⊎◌, ◌<◌, ℕ, ◌+◌, List, [], ◌∷◌, ◌++◌, Bool, true, false, Option, Some, None, codes, unwrap_or, length}
use Rattle.std.specs.List.{flat_map, Contains}
use Rattle.std.specs.Option.{option_or}
use Rattle.serde_json.specs.Data.{Data, Items, no_items, item, Members, no_members, member}
use Rattle.serde_json.specs.Find.{as_str, as_bool, as_array, as_object, get_item}
use Rattle.amr_labels.specs.Labels.{Text}
use Rattle.amr_labels.specs.Matcher.Matchers.{Matcher}
use Rattle.amr_labels.specs.Matcher.MatcherReading.{matchers_of}
use Rattle.amr_labels.specs.declared.matcher.Operator.{Operator}
use Rattle.amr_labels.specs.declared.matcher.Operator.TheVariants.{Equal, Matches}
use Rattle.amr_time.specs.IntervalTexts.{time_at, end_time_at}
use Rattle.amr_time.specs.SpanRead.{span_of}
use Rattle.amr_time.specs.Time.{Span}
use Rattle.amr_time.specs.declared.intervals.TimeRange.{TimeRange}
use Rattle.amr_time.specs.declared.intervals.IntervalMember.{IntervalMember}
use Rattle.amr_config.specs.declared.stated.interval.NamedInterval.{NamedInterval}
use Rattle.amr_config.specs.declared.read.read_intervals.Field.TheVariants.{Weekdays, Months, Years}
use Rattle.amr_config.specs.declared.stated.receiver.Integration.{Integration}
use Rattle.amr_config.specs.declared.stated.receiver.Receiver.{Receiver}
use Rattle.amr_config.specs.declared.stated.route.Grouping.{Grouping}
use Rattle.amr_config.specs.declared.stated.route.Route.{Route}
use Rattle.amr_config.specs.declared.stated.rule.InhibitRule.{InhibitRule}
use Rattle.amr_config.specs.declared.stated.stated.Stated.{Stated}
use Rattle.amr_config.specs.Read.Members.{unless_null, member_of}
use Rattle.amr_config.specs.Read.ReadIntervals.{range_in, day_range_in, is_defined}
use Rattle.amr_config.specs.Read.ReadReceivers.{default_of, kind_key}
use Rattle.amr_config.specs.Read.RouteParts.{grouping_of}
use Rattle.amr_config.specs.Read.Timeout.{timeout_stated}

-- ---- shapes

abbrev pub IsText : Data → Text → Type 0
IsText d text = as_str d ≡ Some text

abbrev pub IsFlag : Data → Bool → Type 0
IsFlag d flag = as_bool d ≡ Some flag

abbrev pub IsDuration : Data → Span → Type 0
IsDuration d span = (text : Text) × IsText d text × (span_of text ≡ Some span)

-- each of the items, from index i on, states the value at its index in the list
abbrev pub StatesEach : {A : Type 0} → (ℕ → Data → A → Type 0) → ℕ → Items → List A → Type 0
StatesEach Is i no_items [] = Unit {0}
StatesEach Is i no_items (x ∷ xs) = ⊥
StatesEach Is i (item d ds) [] = ⊥
StatesEach Is i (item d ds) (x ∷ xs) = Is i d x × StatesEach Is (i + 1) ds xs

abbrev pub IsListOf : {A : Type 0} → (Data → A → Type 0) → Data → List A → Type 0
IsListOf Is d xs = (ds : Items) × (as_array d ≡ Some ds) × StatesEach (λ i. Is) 0 ds xs

-- ---- members

-- what the member under a key states, if it is present
abbrev pub StatesIf : {A : Type 0} → (Data → A → Type 0) → Option Data → Option A → Type 0
StatesIf Is None None = Unit {0}
StatesIf Is None (Some x) = ⊥
StatesIf Is (Some v) None = ⊥
StatesIf Is (Some v) (Some x) = Is v x

abbrev pub States : {A : Type 0} → (Data → A → Type 0) → Text → Data → Option A → Type 0
States Is key d x = StatesIf Is (member_of key d) x

-- the same with a default for an absent member
abbrev pub StatesOr : {A : Type 0} → A → (Data → A → Type 0) → Text → Data → A → Type 0
StatesOr default Is key d x = (found : Option _) × States Is key d found × (x ≡ unwrap_or found default)

-- a member that is present
abbrev pub HasAt : {A : Type 0} → (Data → A → Type 0) → Text → Data → A → Type 0
HasAt Is key d x = (v : Data) × (member_of key d ≡ Some v) × Is v x

-- ---- matchers

-- the matcher of a member of an object, if it is present, followed by those of later members
abbrev pub MatcherOf : Operator → Text → Option Data → List Matcher → List Matcher → Type 0
MatcherOf operator name None matchers later = matchers ≡ later
MatcherOf operator name (Some d) matchers later = (value : Text) × IsText d value × (matchers ≡ record { name = name; operator = operator; value = value } ∷ later)

abbrev pub MatchersOf : Operator → Members → List Matcher → Type 0
MatchersOf operator no_members matchers = matchers ≡ []
MatchersOf operator (member name d ms) matchers = (later : List Matcher) × MatcherOf operator name (unless_null (Some d)) matchers later × MatchersOf operator ms later

-- an object of texts, each a matcher of its key and its text
abbrev pub IsMatchObject : Operator → Data → List Matcher → Type 0
IsMatchObject operator d matchers = (ms : Members) × (as_object d ≡ Some ms) × MatchersOf operator ms matchers

abbrev pub IsMatcherText : Data → List Matcher → Type 0
IsMatcherText d matchers = (text : Text) × IsText d text × (matchers_of text ≡ Some matchers)

-- a list of matcher texts
abbrev pub IsMatcherList : Data → List Matcher → Type 0
IsMatcherList d matchers = (lists : List (List Matcher)) × IsListOf IsMatcherText d lists × (matchers ≡ flat_map (λ list. list) lists)

-- the matchers of values, then those of patterns, then those of the list of matcher texts
pub record StatesMatchers (equal patterns texts : Text) (d : Data) (matchers : List Matcher) : Type 0 where
  pub of_values : List Matcher
  pub of_patterns : List Matcher
  pub of_texts : List Matcher
  pub values : StatesOr [] (IsMatchObject Equal) equal d of_values
  pub regexes : StatesOr [] (IsMatchObject Matches) patterns d of_patterns
  pub list : StatesOr [] IsMatcherList texts d of_texts
  pub all : matchers ≡ (of_values ++ of_patterns) ++ of_texts

-- ---- the timeout

-- `resolve_timeout` of `global`
abbrev pub StatesTimeout : Data → Span → Type 0
StatesTimeout d span = (found : Option (Option Span)) × States (States IsDuration (codes "resolve_timeout")) (codes "global") d found × (span ≡ timeout_stated found)

-- ---- inhibition rules

pub record IsRule (d : Data) (rule : InhibitRule) : Type 0 where
  pub equal : StatesOr [] (IsListOf IsText) (codes "equal") d rule.equal
  pub source : StatesMatchers (codes "source_match") (codes "source_match_re") (codes "source_matchers") d rule.source
  pub target : StatesMatchers (codes "target_match") (codes "target_match_re") (codes "target_matchers") d rule.target

-- ---- time intervals

abbrev pub IsTime : (Text → Option ℕ) → Data → ℕ → Type 0
IsTime spelled d time = (text : Text) × IsText d text × (spelled text ≡ Some time)

pub record IsTimeRange (d : Data) (range : TimeRange) : Type 0 where
  pub start : HasAt (IsTime time_at) (codes "start_time") d range.start
  pub end : HasAt (IsTime end_time_at) (codes "end_time") d range.end
  pub before : range.start < range.end

abbrev pub IsRange : {A : Type 0} → (Data → Option A) → Data → A → Type 0
IsRange reads d range = reads d ≡ Some range

pub record IsIntervalMember (d : Data) (fields : IntervalMember) : Type 0 where
  pub days_of_month : States (IsListOf (IsRange day_range_in)) (codes "days_of_month") d fields.days_of_month
  pub months : States (IsListOf (IsRange (range_in Months))) (codes "months") d fields.months
  pub times : States (IsListOf IsTimeRange) (codes "times") d fields.times
  pub weekdays : States (IsListOf (IsRange (range_in Weekdays))) (codes "weekdays") d fields.weekdays
  pub years : States (IsListOf (IsRange (range_in Years))) (codes "years") d fields.years

pub record IsInterval (d : Data) (interval : NamedInterval) : Type 0 where
  pub name : HasAt IsText (codes "name") d interval.name
  pub members : HasAt (IsListOf IsIntervalMember) (codes "time_intervals") d interval.interval.members

-- ---- receivers

-- the entry with index i of an integration's list
pub record IsIntegration (kind : Text) (i : ℕ) (d : Data) (integration : Integration) : Type 0 where
  pub said : Option Bool
  pub kind_is : integration.kind ≡ kind
  pub place_is : integration.place ≡ i
  pub says : States IsFlag (codes "send_resolved") d said
  pub sends : option_or said (default_of kind) ≡ Some integration.send_resolved

abbrev pub AreIntegrations : Text → Data → List Integration → Type 0
AreIntegrations kind d integrations = (ds : Items) × (as_array d ≡ Some ds) × StatesEach (IsIntegration kind) 0 ds integrations

-- some member of an object
abbrev pub IsMember : Text → Data → Members → Type 0
IsMember key v no_members = ⊥
IsMember key v (member k d ms) = ((k ≡ key) × (d ≡ v)) ⊎ IsMember key v ms

-- an entry of a list whose key names an integration
pub record StatesIntegration (d : Data) (integration : Integration) : Type 0 where
  pub members : Members
  pub key : Text
  pub list : Data
  pub entries : Items
  pub entry : Data
  pub object : as_object d ≡ Some members
  pub is_member : IsMember key list members
  pub names_kind : kind_key key ≡ Some integration.kind
  pub is_list : as_array list ≡ Some entries
  pub at_place : get_item integration.place entries ≡ Some entry
  pub is_entry : IsIntegration integration.kind integration.place entry integration

pub record IsReceiver (d : Data) (receiver : Receiver) : Type 0 where
  pub name : HasAt IsText (codes "name") d receiver.name
  pub only : (integration : Integration) → Contains receiver.integrations integration → StatesIntegration d integration
  pub all : (integration : Integration) → StatesIntegration d integration → Contains receiver.integrations integration

-- ---- routes

-- a name of a time interval that the whole configuration defines
abbrev pub IsDefinedName : Data → Data → Text → Type 0
IsDefinedName whole d name = IsText d name × (is_defined whole name ≡ true)

abbrev pub IsGrouping : Data → Grouping → Type 0
IsGrouping d grouping = (names : List Text) × IsListOf IsText d names × (grouping ≡ grouping_of names)

-- what a route states itself
pub record IsRoute (whole d : Data) (route : Route) : Type 0 where
  pub receiver : States IsText (codes "receiver") d route.receiver
  pub group_by : States IsGrouping (codes "group_by") d route.group_by
  pub group_wait : States IsDuration (codes "group_wait") d route.group_wait
  pub group_interval : States IsDuration (codes "group_interval") d route.group_interval
  pub repeat_interval : States IsDuration (codes "repeat_interval") d route.repeat_interval
  pub continues : StatesOr false IsFlag (codes "continue") d route.continues
  pub matchers : StatesMatchers (codes "match") (codes "match_re") (codes "matchers") d route.matchers
  pub active_time_intervals : StatesOr [] (IsListOf (IsDefinedName whole)) (codes "active_time_intervals") d route.active_time_intervals
  pub mute_time_intervals : StatesOr [] (IsListOf (IsDefinedName whole)) (codes "mute_time_intervals") d route.mute_time_intervals

abbrev pub IsArray : Data → Items → Type 0
IsArray d ds = as_array d ≡ Some ds

-- The route number n and those below it, in preorder: the route, then each item under its key
-- `routes` with those below it.
mutual
  pub data IsTree (whole : Data) : ℕ → Option ℕ → Data → List Route → Type 0 where
    Tree : (n : ℕ) (parent : Option ℕ) (d : Data) (route : Route) (children : Items) (below : List Route) → IsRoute whole d route → route.parent ≡ parent → StatesOr no_items IsArray (codes "routes") d children → AreTrees whole (n + 1) n children below → IsTree whole n parent d (route ∷ below)

  pub data AreTrees (whole : Data) : ℕ → ℕ → Items → List Route → Type 0 where
    NoMore : (n parent : ℕ) → AreTrees whole n parent no_items []
    OneMore : (n parent : ℕ) (d : Data) (ds : Items) (tree rest : List Route) → IsTree whole n (Some parent) d tree → AreTrees whole (n + length tree) parent ds rest → AreTrees whole n parent (item d ds) (tree ++ rest)

-- ---- a whole configuration

-- the time intervals of `mute_time_intervals`, then those of `time_intervals`
pub record StatesIntervals (d : Data) (intervals : List NamedInterval) : Type 0 where
  pub mute : List NamedInterval
  pub named : List NamedInterval
  pub of_mute : StatesOr [] (IsListOf IsInterval) (codes "mute_time_intervals") d mute
  pub of_named : StatesOr [] (IsListOf IsInterval) (codes "time_intervals") d named
  pub all : intervals ≡ mute ++ named

pub record StatesWhole (d : Data) (stated : Stated) : Type 0 where
  pub resolve_timeout : StatesTimeout d stated.resolve_timeout
  pub rules : StatesOr [] (IsListOf IsRule) (codes "inhibit_rules") d stated.rules
  pub receivers : StatesOr [] (IsListOf IsReceiver) (codes "receivers") d stated.receivers
  pub time_intervals : StatesIntervals d stated.time_intervals
  pub routes : HasAt (IsTree d 0 None) (codes "route") d stated.routes
