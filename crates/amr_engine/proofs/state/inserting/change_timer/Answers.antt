use Rattle.std.proofs.Common.{◌∙◌, sym, ap}
use Rattle.amr_config.specs.RouteLabels.{route_labels_cmp_total, route_labels_cmp-IsAntisymmetric}
use Rattle.amr_engine.proofs.StateLemmas.Placed.{put_as_it_is}
use Rattle.amr_engine.proofs.state.inserting.change_timer.Goals as goal

pub returns-then-stays-clause-ok : goal.returns-then-stays-clause-ok
returns-then-stays-clause-ok c =
    let s = c.args.store.now.state in
    ap (λ m. record s { timers = m }) (sym (put_as_it_is route_labels_cmp_total route_labels_cmp-IsAntisymmetric s.timers c.args.group.now c.args.after (sym c.requires ∙ c.stays.ensures c.if-stays.true)))
