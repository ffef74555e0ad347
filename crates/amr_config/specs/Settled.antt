-- The settings of each route, its own and inherited ones.
use Rattle.std.specs.Prelude.{◌≡◌, ℕ, ◌<◌, ◌*◌, List, [], ◌∷◌, ◌++◌, map, Option, Some, None, slice_get, unwrap_or, IfSome}
use Rattle.std.specs.Option.{option_map_or, option_or}
use Rattle.std.specs.List.{range_with_len}
use Rattle.amr_labels.specs.Matcher.Matchers.{Matcher}
use Rattle.amr_time.specs.Time.{second, minute, hour}
use Rattle.amr_config.specs.declared.stated.route.Grouping.{Grouping}
use Rattle.amr_config.specs.declared.stated.route.Route.{Route}
use Rattle.amr_config.specs.declared.settings.Settings.{Settings}
use Rattle.amr_config.specs.declared.config.Parts.{Parts}
use Rattle.amr_config.specs.declared.stated.stated.Stated.{Stated}
use Rattle.amr_config.specs.Stated.Config.{Config}
use Rattle.amr_config.specs.declared.defaults.TheConstants.{GROUP_WAIT_SECONDS, GROUP_INTERVAL_MINUTES, REPEAT_INTERVAL_HOURS}
use Rattle.amr_config.specs.Intervals.{AreIntervals}
use Rattle.amr_config.specs.Paths.{AreOwn}
use Rattle.amr_config.specs.Receivers.{AreReceivers}
use Rattle.amr_config.specs.RuleNames.{AreNamesOf}
use Rattle.amr_config.specs.Subtrees.{AreSubtreeEnds}
use Rattle.amr_config.specs.Routing.{route_numbers, route_is, parent_of, inherited_value, group_wait_of, group_interval_of, repeat_interval_of, receiver_name_of, active_intervals_of, mute_intervals_of, path_of, sorted_matchers}

-- the settings of the route with this number; the defaults if there is no such route
unfoldable pub settings_of : Config → ℕ → Settings
settings_of config n = record {
  parent = parent_of config n;
  matchers = option_map_or (λ route. route.matchers) (slice_get config.routes n) [];
  continues = route_is (λ route. route.continues) config n;
  receiver = receiver_name_of config n;
  group_by = inherited_value (λ route. route.group_by) config n;
  group_wait = group_wait_of config n;
  group_interval = group_interval_of config n;
  repeat_interval = repeat_interval_of config n;
  active_time_intervals = active_intervals_of config n;
  mute_time_intervals = mute_intervals_of config n;
  path = path_of config n;
}

-- the settings of all routes
unfoldable pub settings_of_all : Config → List Settings
settings_of_all config = map (settings_of config) (route_numbers config)

abbrev pub stated_config : Stated → Config
stated_config stated = record { routes = stated.routes; receivers = stated.receivers; rules = stated.rules; resolve_timeout = stated.resolve_timeout; time_intervals = stated.time_intervals }

abbrev pub config_of_parts : Parts → Config
config_of_parts parts = stated_config parts.stated

-- each parent comes before its children
abbrev pub AreParentsFirst : Config → Type 0
AreParentsFirst config = (n parent : ℕ) → parent_of config n ≡ Some parent → parent < n

pub record AreSettled (parts : Parts) : Type 0 where
  pub settings : parts.settings ≡ settings_of_all (config_of_parts parts)
  pub parents : AreParentsFirst (config_of_parts parts)
  pub receivers : AreReceivers parts.stated.receivers parts.settings parts.receiver_indexes
  pub own_paths : AreOwn (config_of_parts parts) parts.own_paths
  pub subtree_ends : AreSubtreeEnds parts.stated.routes parts.subtree_ends
  pub intervals : AreIntervals parts.stated.time_intervals parts.interval_indexes
  pub rule_names : IfSome parts.rule_names (AreNamesOf parts.stated.rules)

-- the receiver of a route, given its parent's settings, if it has a parent
abbrev pub receiver_under : Route → Option Settings → List ℕ
receiver_under route above = unwrap_or route.receiver (option_map_or (λ settings. settings.receiver) above [])

abbrev pub grouping_under : Route → Option Settings → Option Grouping
grouping_under route above = option_or route.group_by (option_map_or (λ settings. settings.group_by) above None)

abbrev pub path_under : Route → Option Settings → List (List Matcher)
path_under route above = option_map_or (λ settings. settings.path) above [] ++ sorted_matchers route.matchers ∷ []

-- the settings of a route, given its parent's settings, if it has a parent
unfoldable pub settled_under : Route → Option Settings → Settings
settled_under route above = record {
  parent = route.parent;
  matchers = route.matchers;
  continues = route.continues;
  receiver = receiver_under route above;
  group_by = grouping_under route above;
  group_wait = unwrap_or route.group_wait (option_map_or (λ settings. settings.group_wait) above (GROUP_WAIT_SECONDS * second));
  group_interval = unwrap_or route.group_interval (option_map_or (λ settings. settings.group_interval) above (GROUP_INTERVAL_MINUTES * minute));
  repeat_interval = unwrap_or route.repeat_interval (option_map_or (λ settings. settings.repeat_interval) above (REPEAT_INTERVAL_HOURS * hour));
  active_time_intervals = route.active_time_intervals;
  mute_time_intervals = route.mute_time_intervals;
  path = path_under route above;
}

-- the settings of the first routes
unfoldable pub settled_to : Config → ℕ → List Settings
settled_to config n = map (settings_of config) (range_with_len 0 n)
