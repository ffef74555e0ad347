-- What the cache of quiet groups says of a state.
use Rattle.std.specs.Prelude.{◌≡◌, ℕ, Option, Some, None, ◌<◌, ◌≤◌, length}
use Rattle.std.specs.List.{fold}
use Rattle.amr_labels.specs.Map.{Map, get, remove}
use Rattle.amr_labels.specs.Labels.{LabelSet}
use Rattle.amr_config.specs.Stated.Config.{Config}
use Rattle.amr_config.specs.Routing.{HasOwnPath}
use Rattle.amr_config.specs.Groups.{groups_of}
use Rattle.amr_config.specs.declared.route_labels.RouteLabels.{RouteLabels}
use Rattle.amr_config.specs.RouteLabels.{route_labels_cmp}
use Rattle.amr_engine.specs.State.State.{State, members}
use Rattle.amr_tables.specs.Numbered.{Numbered, map_of}
use Rattle.amr_engine.specs.declared.quiet.Period.{Period}
use Rattle.amr_engine.specs.declared.quiet.QuietTime.{QuietTime}
use Rattle.amr_engine.specs.declared.quiet.QuietGroups.{QuietGroups}
use Rattle.amr_engine.specs.Quiet.{IsQuiet, IsStill, IsAllNotified}

-- when groups are quiet, by route and labels
abbrev pub Times : Type 0
Times = Map route_labels_cmp QuietTime

abbrev pub times_in : Numbered RouteLabels QuietTime → Times
times_in table = map_of route_labels_cmp table

abbrev pub quiet_times : QuietGroups → Times
quiet_times cache = times_in cache.times

-- In the period all integrations were notified of all members of the group, so it doesn't matter
-- what mutes those. No group of another route shares its log entries.
pub record IsNotifiedIn (s : State) (group : RouteLabels) (period : Period) : Type 0 where
  pub own : HasOwnPath s.config group.route
  pub notified : IsAllNotified s group period.from period.until (members s group)

-- in the period the group is quiet, if the generation is still the present one
pub record IsQuietSince (present : ℕ) (s : State) (group : RouteLabels) (period : Period) (generation : ℕ) : Type 0 where
  pub there : group.route < length s.config.routes
  pub not_later : generation ≤ present
  pub quiet : generation ≡ present → IsQuiet s group period.from period.until

-- what is cached of a group, for all generations or for one
abbrev pub IsTrueTime : ℕ → State → RouteLabels → Period → Option ℕ → Type 0
IsTrueTime present s group period None = IsNotifiedIn s group period
IsTrueTime present s group period (Some generation) = IsQuietSince present s group period generation

-- all that is cached holds in the state
pub record IsTrueOf (cache : QuietGroups) (s : State) : Type 0 where
  pub quiet : (group : RouteLabels) (time : QuietTime) → get (quiet_times cache) group ≡ Some time → IsTrueTime cache.generation s group time.period time.generation
  pub still : (period : Period) → cache.still ≡ Some period → IsStill s period.from period.until

-- what is cached of groups for all generations still holds in the second state, if it held in
-- the first
abbrev pub Outlasts : QuietGroups → State → State → Type 0
Outlasts cache s t = (group : RouteLabels) (time : QuietTime) → get (quiet_times cache) group ≡ Some time → IsNotifiedIn s group time.period → IsNotifiedIn t group time.period

-- without the groups that an alert with these labels joins
abbrev pub without_joined : Config → Times → LabelSet → Times
without_joined config times labels = fold remove times (groups_of config labels)
