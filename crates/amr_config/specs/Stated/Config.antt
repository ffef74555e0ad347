-- A configuration as a value.
use Rattle.std.specs.Prelude.{List}
use Rattle.amr_time.specs.Time.{Span}
use Rattle.amr_config.specs.declared.stated.route.Route.{Route}
use Rattle.amr_config.specs.declared.stated.receiver.Receiver.{Receiver}
use Rattle.amr_config.specs.declared.stated.interval.NamedInterval.{NamedInterval}
use Rattle.amr_config.specs.declared.stated.rule.InhibitRule.{InhibitRule}

-- Routes are in a list in preorder, each with its parent's index in that list and with its own
-- settings.
pub record Config : Type 0 where
  pub routes : List Route
  pub receivers : List Receiver
  pub rules : List InhibitRule
  pub resolve_timeout : Span
  -- no two have the same name
  pub time_intervals : List NamedInterval
