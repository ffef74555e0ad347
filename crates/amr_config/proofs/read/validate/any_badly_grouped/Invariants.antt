use Rattle.std.proofs.Common.{◌≡◌, drop}
use Rattle.std.specs.List.{list_any}
use Rattle.amr_config.specs.Read.Judging.{is_badly_grouped}
use Rattle.amr_config.proofs.read.validate.any_badly_grouped.Given as goal

abbrev pub invariant-loop-route : goal.invariant-loop-route
invariant-loop-route l = list_any is_badly_grouped l.routes ≡ list_any is_badly_grouped (drop l.route-index l.routes)
