use Rattle.std.proofs.Common.{option_copied, ◌≡◌, Some, refl, sym, ap, ◌∙◌}
use Rattle.amr_labels.specs.Labels.{label_set_cmp, label_set_cmp_total, label_set_cmp-IsAntisymmetric}
use Rattle.amr_tables.specs.Numbered.{map_of, key_at}
use Rattle.amr_tables.proofs.Naming.{key_at_number}
use Rattle.amr_engine.specs.State.Timed.{alert_moment}
use Rattle.amr_engine.proofs.StateLemmas.Scheduling.{first_moment, no_moment, first_alert, no_alert, named_moment, not_none}
use Rattle.amr_engine.proofs.state.alert_table.AlertRemovals.first.Goals as goal

pub returns-in_err-first : goal.returns-in_err-first
returns-in_err-first c = λ timers.
    let a = c.args.self.alerts.now in
    rw c.from_residual.ensures (no_alert (map_of label_set_cmp a) timers (no_moment label_set_cmp_total label_set_cmp-IsAntisymmetric alert_moment a refl c.requires.numbering c.in_err-first.ensures.none))

pub returns-in_err-labels : goal.returns-in_err-labels
returns-in_err-labels c = λ timers.
    let a = c.args.self.alerts.now in
    let first = c.in_ok-first.first in
    let at = c.in_ok-first.ensures.some.0 in
    let by = named_moment label_set_cmp_total label_set_cmp-IsAntisymmetric alert_moment a c.args.earliest.now c.requires.scheduled first.number first.moment at in
    not_none by.0 _ (sym (key_at_number label_set_cmp_total label_set_cmp-IsAntisymmetric a c.requires.numbering by.0 first.number by.1) ∙ sym c.key_at.ensures.key ∙ ap option_copied c.in_err-labels.was)

pub returns : goal.returns
returns c = λ timers.
    let a = c.args.self.alerts.now in
    let first = c.in_ok-first.first in
    let labels = c.in_ok-labels.labels.now in
    let named : key_at a first.number ≡ Some labels = sym c.key_at.ensures.key ∙ ap option_copied c.in_ok-labels.was in
    first_alert (map_of label_set_cmp a) timers labels first.moment
    (first_moment label_set_cmp_total label_set_cmp-IsAntisymmetric alert_moment a c.args.earliest.now first labels refl c.requires.numbering c.requires.scheduled
    c.in_ok-first.ensures.some named)
