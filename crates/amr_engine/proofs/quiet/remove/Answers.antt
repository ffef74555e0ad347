use Rattle.std.proofs.Common.{sym, ◌∙◌}
use Rattle.amr_config.specs.RouteLabels.{route_labels_cmp_total, route_labels_cmp-IsAntisymmetric}
use Rattle.amr_engine.proofs.Forgetting.{none_placed, unknown_left}
use Rattle.amr_engine.proofs.quiet.remove.Goals as goal

pub swap_at-requires : goal.swap_at-requires
swap_at-requires c = (c.args.group.now, sym c.look_up_number-number.ensures.number ∙ c.in-Some.is)

pub returns-in-None : goal.returns-in-None
returns-in-None c =
    unknown_left route_labels_cmp_total route_labels_cmp-IsAntisymmetric _ c.args.group.now
    (sym c.look_up_number-number.ensures.value ∙ none_placed c.look_up_number-number.result.0 c.look_up_number-number.result.1 c.in-None.is c.look_up_number-number.ensures.placed)
