use Rattle.std.proofs.Common.{[], ◌≡◌, ◌∷◌, ◌++◌, None, arith, sym, ap, subst, ◌∙◌}
use Rattle.amr_labels.specs.Labels.{LabelSet, label_set_cmp, label_set_cmp_total, label_set_cmp-IsAntisymmetric}
use Rattle.amr_rules.specs.declared.alert.Alert.{Alert}
use Rattle.amr_tables.specs.Numbered.{Numbered, number_of, next_number, GetsNumber}
use Rattle.amr_engine.specs.Indexes.RuleSources.{AllArrived}
use Rattle.amr_engine.specs.State.Timed.{AreRemoved, alert_moment}
use Rattle.std.proofs.lemmas.Result.{on_ok_weaker}
use Rattle.amr_engine.proofs.IndexesLemmas.Arriving.{arrived_more}
use Rattle.amr_engine.proofs.StateLemmas.Scheduling.{scheduled_same, scheduled_roomier, scheduled_placed, unplaced}
use Rattle.amr_engine.proofs.state.alert_table.AlertTable.add.Goals.{After-reserve, After-make_place}
use Rattle.amr_engine.proofs.state.alert_table.AlertTable.add.Goals as goal

-- there is room for the moment
roomy : (c : After-reserve) → AreRemoved c.self.inside.alerts c.reserve.new.self
roomy c = record {
  numbering = c.self.invariant.0.numbering;
  removed = scheduled_roomier label_set_cmp_total label_set_cmp-IsAntisymmetric alert_moment c.self.inside.alerts c.self.inside.removals c.reserve.new.self c.reserve.ensures.more c.reserve.ensures.held c.reserve.ensures.kept c.self.invariant.0.removed;
}

new : (c : After-make_place) → number_of label_set_cmp c.self.inside.alerts c.in_ok-copy.copy ≡ None
new c = ap (number_of label_set_cmp c.self.inside.alerts) c.in_ok-copy.ensures.cases ∙ ap (λ (v : Numbered LabelSet Alert). number_of label_set_cmp v c.args.labels.now) c.self.view_is ∙ c.requires

-- the sources know the label set, whether it got a place or not
known : (c : After-make_place) → AllArrived c.make_place.new.self c.add.new.self
known c =
    let t = c.self.inside in
    let u = c.make_place.new.self in
    let copy = c.in_ok-copy.copy in
    let gets = on_ok_weaker {Q = GetsNumber label_set_cmp t.alerts u copy (next_number t.alerts)} c.make_place.result (λ gets. gets (unplaced label_set_cmp t.alerts copy (new c))) c.make_place.ensures.number in
    let added : c.add.new.self ≡ t.sources ++ copy ∷ [] = c.in_ok-add.ensures.ok ∙ ap (λ labels. t.sources ++ labels ∷ []) (c.in_ok-clone.ensures.cases ∙ sym c.in_ok-copy.ensures.cases) in
    subst (AllArrived u) (sym added) (arrived_more c.make_place.result t.alerts u t.sources copy (next_number t.alerts) gets c.make_place.ensures.err c.self.invariant.1)

pub invariant_of-self : goal.invariant_of-self
invariant_of-self c = (roomy (goal.at.invariant_of-self c).After-reserve, c.self.invariant.1)

pub invariant_of-self-in_err-clone : goal.invariant_of-self-in_err-clone
invariant_of-self-in_err-clone c = (roomy (goal.at.invariant_of-self-in_err-clone c).After-reserve, c.self.invariant.1)

pub invariant_of-self-in_err-add : goal.invariant_of-self-in_err-add
invariant_of-self-in_err-add c = (roomy (goal.at.invariant_of-self-in_err-add c).After-reserve, subst (AllArrived c.self.inside.alerts) (sym c.in_err-add.ensures.err) c.self.invariant.1)

pub invariant_of-self-in_err-number : goal.invariant_of-self-in_err-number
invariant_of-self-in_err-number c =
    let at = goal.at.invariant_of-self-in_err-number c in (
      record {
        numbering = c.make_place.ensures.numbering;
        removed = scheduled_same label_set_cmp_total label_set_cmp-IsAntisymmetric alert_moment c.self.inside.alerts c.make_place.new.self c.reserve.new.self c.in_err-number.ensures.kept c.make_place.ensures.values (roomy at.After-reserve).removed;
      },
      known at.After-make_place,
    )

pub invariant_of-self-2 : goal.invariant_of-self-2
invariant_of-self-2 c =
    let t = c.self.inside in
    let copy = c.in_ok-copy.copy in
    let at = goal.at.invariant_of-self-2 c in
    let none = new at.After-make_place in (
      record {
        numbering = c.make_place.ensures.numbering;
        removed = scheduled_placed label_set_cmp_total label_set_cmp-IsAntisymmetric alert_moment t.alerts c.make_place.new.self c.reserve.new.self copy c.self.invariant.0.numbering c.make_place.ensures.numbering none (c.in_ok-number.ensures.number (unplaced label_set_cmp t.alerts copy none)) c.make_place.ensures.values
            (omega (arith, c.in_ok-reserve.ensures.room, c.in_ok-count.ensures.count)) (roomy at.After-reserve).removed;
      },
      known at.After-make_place,
    )
