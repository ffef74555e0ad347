-- Validating a configuration that parsed.
use Rattle.std.specs.Prelude.{List, [], ◌∷◌, Bool, true, false, not, ◌&&◌, ◌||◌, Option, Some, None, length, codes, if◌then◌else◌, ◌==◌}
use Rattle.std.specs.Option.{option_map_or, is_none}
use Rattle.std.specs.List.{list_any}
use Rattle.std.specs.Ordering.{eq_by_cmp}
use Rattle.amr_labels.specs.Labels.{Text, text_cmp}
use Rattle.amr_time.specs.Time.{Span}
use Rattle.amr_config.specs.declared.read.error.Refusal.{Refusal}
use Rattle.amr_config.specs.declared.read.error.Refusal.TheVariants.{Other}
use Rattle.amr_config.specs.declared.read.error.Cause.TheVariants.{UnknownReceiver, DuplicateReceiver, RootRoute, ZeroInterval, BadGroupBy}
use Rattle.amr_config.specs.declared.stated.receiver.Receiver.{Receiver}
use Rattle.amr_config.specs.declared.stated.route.Route.{Route}
use Rattle.amr_config.specs.declared.stated.route.Grouping.{Grouping}
use Rattle.amr_config.specs.declared.stated.route.Grouping.TheVariants.{AllLabels, Named}
use Rattle.amr_config.specs.declared.stated.stated.Stated.{Stated}
use Rattle.amr_config.specs.Read.Shape.{are_different}

-- a receiver has the name
unfoldable pub is_known : List Receiver → Text → Bool
is_known receivers name = list_any (λ receiver. eq_by_cmp text_cmp receiver.name name) receivers

-- the route names a receiver that doesn't exist
unfoldable pub is_lost : List Receiver → Route → Bool
is_lost receivers route = option_map_or (λ name. not (is_known receivers name)) route.receiver false

abbrev pub is_zero : Option Span → Bool
is_zero None = false
is_zero (Some span) = span == 0

-- an interval that must not be zero is zero
unfoldable pub has_zero : Route → Bool
has_zero route = is_zero route.group_interval || is_zero route.repeat_interval

abbrev pub is_bad_name : Text → Bool
is_bad_name name = (length name == 0) || eq_by_cmp text_cmp name (codes "...")

-- a name is empty, or is the one for all labels, or is repeated
unfoldable pub has_bad_names : List Text → Bool
has_bad_names names = list_any is_bad_name names || not (are_different names)

abbrev pub groups_badly : Option Grouping → Bool
groups_badly None = false
groups_badly (Some AllLabels) = false
groups_badly (Some (Named names)) = has_bad_names names

unfoldable pub is_badly_grouped : Route → Bool
is_badly_grouped route = groups_badly route.group_by

-- the route has time intervals
abbrev pub has_intervals : Route → Bool
has_intervals route = not (length route.active_time_intervals == 0) || not (length route.mute_time_intervals == 0)

-- the root has matchers, `continue` or time intervals, or it has no receiver
unfoldable pub is_bad_root : Route → Bool
is_bad_root route = not (length route.matchers == 0) || route.continues || is_none route.receiver || has_intervals route

abbrev pub root_is_bad : List Route → Bool
root_is_bad [] = true
root_is_bad (root ∷ routes) = is_bad_root root

-- a receiver has the name
abbrev pub is_name_of : Text → List Receiver → Bool
is_name_of name receivers = list_any (λ receiver. eq_by_cmp text_cmp name receiver.name) receivers

-- no name is repeated
abbrev pub are_named_apart : List Receiver → Bool
are_named_apart [] = true
are_named_apart (receiver ∷ receivers) = not (is_name_of receiver.name receivers) && are_named_apart receivers

-- the refusal with the least number
unfoldable pub refusal_of : Stated → Option Refusal
refusal_of stated =
    if list_any (is_lost stated.receivers) stated.routes then Some (Other UnknownReceiver)
    else (if not (are_named_apart stated.receivers) then Some (Other DuplicateReceiver)
    else (if root_is_bad stated.routes then Some (Other RootRoute)
    else (if list_any has_zero stated.routes then Some (Other ZeroInterval)
    else (if list_any is_badly_grouped stated.routes then Some (Other BadGroupBy)
    else None))))
