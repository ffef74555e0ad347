use Rattle.std.proofs.Common.{refl}
use Rattle.amr_labels.specs.Labels.{label_set_cmp_total, label_set_cmp-IsAntisymmetric}
use Rattle.amr_engine.specs.State.Timed.{alert_moment}
use Rattle.amr_engine.proofs.IndexesLemmas.Arriving.{nothing_arrived}
use Rattle.amr_engine.proofs.StateLemmas.Scheduling.{none_scheduled}
use Rattle.amr_engine.proofs.state.alert_table.AlertTable.new.Goals as goal

pub invariant_of-result : goal.invariant_of-result
invariant_of-result c = (
  record {
    numbering = c.new.ensures.numbering;
    removed = none_scheduled label_set_cmp_total label_set_cmp-IsAntisymmetric alert_moment c.new.result c.new-3.result refl c.new.ensures.keys c.new.ensures.cells c.new-3.ensures.held c.new-3.ensures.kept;
  },
  nothing_arrived c.new.result _ c.new.ensures.keys,
)
