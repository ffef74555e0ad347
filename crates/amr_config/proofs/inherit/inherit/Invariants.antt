use Rattle.std.proofs.Common.{◌≡◌}
use Rattle.amr_config.specs.Settled.{stated_config, settled_to}
use Rattle.amr_config.proofs.inherit.inherit.Given as goal

abbrev pub invariant-loop-route : goal.invariant-loop-route
invariant-loop-route l = l.settings.items ≡ settled_to (stated_config l.stated) l.route-index
