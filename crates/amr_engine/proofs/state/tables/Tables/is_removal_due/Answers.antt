use Rattle.std.proofs.Common.{option_map, sym, ◌∙◌}
use Rattle.std.proofs.lemmas.Bool.{true≢false, false_from_ne_true}
use Rattle.amr_labels.specs.Labels.{label_set_cmp}
use Rattle.amr_tables.specs.Numbered.{map_of}
use Rattle.amr_config.specs.RouteLabels.{route_labels_cmp}
use Rattle.amr_engine.specs.State.Timed.{due_of}
use Rattle.amr_engine.specs.declared.state.due.Kind.TheVariants.{AlertRemoval, GroupRemoval}
use Rattle.amr_engine.proofs.Calming.{none_removed, first_is_later}
use Rattle.amr_engine.proofs.state.tables.Tables.is_removal_due.Goals as goal

pub returns-then-is_due : goal.returns-then-is_due
returns-then-is_due c =
    let a = map_of label_set_cmp c.args.self.now.alerts in
    let b = map_of route_labels_cmp c.args.self.now.roster.timers in (
      λ off. absurd (true≢false (sym c.if-is_due.true ∙ off)),
      λ none. absurd (first_is_later c.args.at a b AlertRemoval (option_map due_of c.first_removal.result) none (λ e. absurd (cc)) (c.first_removal.ensures b) (c.is_due.ensures.due c.if-is_due.true)),
    )

pub returns-else-is_due : goal.returns-else-is_due
returns-else-is_due c =
    let a = map_of label_set_cmp c.args.self.now.alerts in
    let b = map_of route_labels_cmp c.args.self.now.roster.timers in
    let alert = option_map due_of c.first_removal.result in
    let group = option_map due_of c.first_removal-else-is_due.result in (
      λ off. none_removed c.args.at a b alert group (c.first_removal.ensures b) (c.first_removal-else-is_due.ensures a) (c.is_due.ensures.later c.if-is_due.false) (c.is_due-else-is_due.ensures.later off),
      λ none. false_from_ne_true c.is_due-else-is_due.result (λ yes.
          first_is_later c.args.at a b GroupRemoval group none (λ e. absurd (cc)) (c.first_removal-else-is_due.ensures a) (c.is_due-else-is_due.ensures.due yes)),
    )
