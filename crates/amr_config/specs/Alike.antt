-- Configurations that group alerts alike, and whose inhibition rules have the same sides.
use Rattle.std.specs.Prelude.{◌≡◌, ℕ, Bool, List, map, Option}
use Rattle.amr_labels.specs.Matcher.Matchers.{Matcher}
use Rattle.amr_config.specs.declared.stated.route.Grouping.{Grouping}
use Rattle.amr_config.specs.declared.stated.route.Route.{Route}
use Rattle.amr_config.specs.declared.stated.rule.InhibitRule.{InhibitRule}
use Rattle.amr_config.specs.Stated.Config.{Config}

-- what a route says of the alerts that it takes, and of their groups
pub record RoutingPart : Type 0 where
  pub parent : Option ℕ
  pub matchers : List Matcher
  pub continues : Bool
  pub group_by : Option Grouping

abbrev pub routing_part : Route → RoutingPart
routing_part route = record { parent = route.parent; matchers = route.matchers; continues = route.continues; group_by = route.group_by }

-- the source matchers and the target matchers of a rule
abbrev pub sides : InhibitRule → List Matcher × List Matcher
sides rule = (rule.source, rule.target)

-- Routes at the same indexes say the same of alerts and their groups, and so do rules of their
-- sides. Receivers, times and intervals may differ.
pub record AreAlike (config other : Config) : Type 0 where
  pub routes : map routing_part config.routes ≡ map routing_part other.routes
  pub rules : map sides config.rules ≡ map sides other.rules
