-- The groups that take an alert.
use Rattle.std.specs.Prelude.{◌≡◌, ℕ, Bool, true, false, List, Option, None, Some, IfSome, map}
use Rattle.std.specs.List.{All, list_any}
use Rattle.std.specs.Ordering.{eq_by_cmp}
use Rattle.amr_labels.specs.Labels.{Text, text_cmp, LabelSet, label_set_cmp}
use Rattle.amr_labels.specs.Map.{Map, get}
use Rattle.amr_config.specs.declared.router.CachedRouting.{CachedRouting}
use Rattle.amr_config.specs.declared.route_labels.RouteLabels.{RouteLabels}
use Rattle.amr_config.specs.Stated.Config.{Config}
use Rattle.amr_config.specs.Routing.{chosen_routes, group_of}
use Rattle.amr_config.specs.declared.stated.route.Grouping.{Grouping}
use Rattle.amr_config.specs.declared.stated.route.Grouping.TheVariants.{AllLabels, Named}
use Rattle.amr_config.specs.declared.stated.rule_sides.RuleMatch.{RuleMatch}
use Rattle.amr_config.specs.Stated.RuleMatches.{rule_matches}

-- the group of an alert with these labels at a route
abbrev pub group_at : Config → LabelSet → ℕ → RouteLabels
group_at config labels route = record { route = route; labels = group_of config route labels }

-- of each route that takes the alert its group
unfoldable pub groups_of : Config → LabelSet → List RouteLabels
groups_of config labels = map (group_at config labels) (chosen_routes config labels)

-- what is to be cached of a label set
abbrev pub routing_to_cache : Config → LabelSet → CachedRouting
routing_to_cache config labels = record { labels = labels; groups = groups_of config labels; rules = rule_matches labels config.rules }

-- what is cached at a place are the groups of a label set, and the sides of the rules that it is on
abbrev pub IsRoutingOf : Config → Option CachedRouting → Type 0
IsRoutingOf config place = IfSome place (λ cached. cached ≡ routing_to_cache config cached.labels)

abbrev pub IsCacheOf : Config → List (Option CachedRouting) → Type 0
IsCacheOf config cache = All (IsRoutingOf config) cache

-- what is cached of a label set are the sides of the rules that it is on
abbrev pub AreSides : Config → Map label_set_cmp (List RuleMatch) → Type 0
AreSides config sides = (labels : LabelSet) (found : _) → get sides labels ≡ Some found → found ≡ rule_matches labels config.rules

-- the grouping keeps labels with this name
abbrev pub keeps : Option Grouping → Text → Bool
keeps None name = false
keeps (Some AllLabels) name = true
keeps (Some (Named names)) name = list_any (eq_by_cmp text_cmp name) names
