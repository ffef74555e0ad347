use Rattle.std.proofs.Common.{◌<◌, fold, ◌∙◌, sym, ap, map, length, slice_get, Some, arith, refl}
use Rattle.std.proofs.lemmas.Option.{slice_get-get_or}
use Rattle.amr_config.specs.declared.route_labels.RouteLabels.{RouteLabels}
use Rattle.amr_engine.specs.State.State.{insert_into_group, insert_into_groups}
use Rattle.amr_engine.proofs.StateLemmas.Placed.{routes_of_groups, count_of_groups, group_among}
use Rattle.amr_engine.proofs.state.inserting.insert_into_each.Goals as goal

pub loop-group-init : goal.loop-group-init
unfolding insert_into_groups
loop-group-init c =
    let s = c.args.store.now.state in
    record {
      ok = ap (λ groups. fold (insert_into_group c.args.labels.now c.args.alert.now) s (map (λ (group : RouteLabels). group.route) groups)) c.requires
          ∙ ap (fold (insert_into_group c.args.labels.now c.args.alert.now) s) (routes_of_groups s.config c.args.labels.now);
      groups = c.requires;
      count = ap length c.requires ∙ count_of_groups s.config c.args.labels.now;
      kept = refl;
      grown = omega arith;
    }

pub insert_into_group-requires : goal.insert_into_group-requires
insert_into_group-requires c =
    let lt : c.loop-group.group-index < length c.args.groups.now = omega (arith, c.loop-group-test.true) in
    group_among c.loop-group.store.state.config c.args.labels.now c.loop-group.group-index c.group-item.result
    (ap (λ l. slice_get l c.loop-group.group-index) (sym c.loop-group.invariant.groups)
    ∙ slice_get-get_or c.args.groups.now c.loop-group.group-index c.group-item.result lt ∙ ap (λ g. Some g) (sym c.group-item.is))
