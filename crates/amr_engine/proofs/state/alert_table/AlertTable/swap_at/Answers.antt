use Rattle.std.proofs.Common.{◌≡◌, Some, ap, ◌∙◌}
use Rattle.amr_labels.specs.Labels.{LabelSet, label_set_cmp, label_set_cmp_total, label_set_cmp-IsAntisymmetric}
use Rattle.amr_engine.specs.State.Timed.{alert_moment}
use Rattle.amr_rules.specs.declared.alert.Alert.{Alert}
use Rattle.amr_tables.specs.Numbered.{Numbered, number_of}
use Rattle.amr_engine.proofs.IndexesLemmas.Arriving.{arrived_same}
use Rattle.amr_engine.proofs.StateLemmas.Scheduling.{scheduled_set, ordered_before}
use Rattle.amr_engine.proofs.state.alert_table.AlertTable.swap_at.Goals as goal

pub swap_at-requires : goal.swap_at-requires
swap_at-requires c = rw c.self.view_is c.requires

pub update-requires-clause-kept : goal.update-requires-clause-kept
update-requires-clause-kept c =
    let t = c.self.inside in
    ordered_before label_set_cmp_total label_set_cmp-IsAntisymmetric alert_moment t.alerts c.swap_at.new.self t.removals c.args.number c.args.alert.now _ c.swap_at.ensures.keys c.swap_at.ensures.cells (c.alert_moment-former.ensures ∙ ap alert_moment (c.as_ref.ensures.value ∙ c.swap_at.ensures.value)) c.self.invariant.0.removed.ordered

pub invariant_of-self : goal.invariant_of-self
invariant_of-self c =
    let t = c.self.inside in
    let labels = c.requires.0 in
    let n = c.args.number in
    let u = c.swap_at.new.self in
    let number : number_of label_set_cmp t.alerts labels ≡ Some n = ap (λ (v : Numbered LabelSet Alert). number_of label_set_cmp v labels) c.self.view_is ∙ c.requires.1 in (
      record {
        numbering = c.swap_at.ensures.numbering;
        removed = scheduled_set label_set_cmp_total label_set_cmp-IsAntisymmetric alert_moment t.alerts u t.removals c.update.new.self labels n number c.swap_at.ensures.keys c.update.ensures.room c.update.ensures.held c.update.ensures.kept c.self.invariant.0.removed;
      },
      arrived_same t.alerts u t.sources c.self.invariant.1 c.swap_at.ensures.places,
    )
