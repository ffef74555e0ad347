use Rattle.std.proofs.Common.{refl}
use Rattle.amr_config.specs.RouteLabels.{route_labels_cmp_total, route_labels_cmp-IsAntisymmetric}
use Rattle.amr_engine.specs.declared.state.due.Kind.TheVariants.{GroupRemoval, GroupFlush}
use Rattle.amr_engine.specs.State.Timed.{group_moment}
use Rattle.amr_engine.proofs.StateLemmas.Rostering.{grouped_first}
use Rattle.amr_engine.proofs.StateLemmas.Scheduling.{none_scheduled}
use Rattle.amr_engine.proofs.state.roster.Roster.new.Goals as goal

pub invariant_of-result : goal.invariant_of-result
invariant_of-result c = (
  grouped_first c.new.result c.new-2.result c.new-3.result c.new-4.result c.new-2.ensures.numbering c.new-2.ensures.keys c.new-2.ensures.cells c.new-3.ensures.cells c.new-4.ensures,
  record {
    numbering = c.new-3.ensures.numbering;
    removed = none_scheduled route_labels_cmp_total route_labels_cmp-IsAntisymmetric (group_moment GroupRemoval) c.new-3.result c.new-5.result refl c.new-3.ensures.keys c.new-3.ensures.cells c.new-5.ensures.held c.new-5.ensures.kept;
    flushed = none_scheduled route_labels_cmp_total route_labels_cmp-IsAntisymmetric (group_moment GroupFlush) c.new-3.result c.new-6.result refl c.new-3.ensures.keys c.new-3.ensures.cells c.new-6.ensures.held c.new-6.ensures.kept;
  },
)
