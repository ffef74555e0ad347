use Rattle.std.proofs.Common.{le_refl, ◌≡◌, true, subst, ◌∙◌}
use Rattle.std.specs.List.{list_all}
use Rattle.amr_labels.specs.Labels.{label_set_cmp}
use Rattle.amr_rules.specs.declared.alert.Alert.{Alert}
use Rattle.amr_engine.specs.Quiet.{is_outside}
use Rattle.amr_engine.proofs.Values.{all_covered}
use Rattle.amr_engine.proofs.quiet_until.alert_end.Goals as goal

pub loop-alert-init : goal.loop-alert-init
loop-alert-init c = record {
  within = le_refl c.args.until;
  still = λ end le all.
      let outside = λ (alert : Alert). is_outside c.args.at end alert.ends_at in
      all_covered label_set_cmp outside c.alerts.result.now c.args.store.now.state.alerts c.alerts.ensures (subst (λ values. list_all outside values ≡ true) (c.into_iter-alert-iterator.ensures.into_iter_gives ∙ c.values-alert-items.ensures) all);
}
