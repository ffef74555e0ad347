use Rattle.std.proofs.Common.{None, Some}
use Rattle.amr_labels.specs.Labels.{label_set_cmp, label_set_cmp_total, label_set_cmp-IsAntisymmetric}
use Rattle.amr_tables.specs.Numbered.{map_of}
use Rattle.amr_engine.proofs.IndexesLemmas.Sources.{sources_are}
use Rattle.amr_engine.proofs.StateLemmas.Scheduling.{placed}
use Rattle.amr_engine.proofs.state.alert_table.AlertTableAlertStore.sources.Goals as goal

pub returns-in-None : goal.returns-in-None
returns-in-None c =
    let t = c.self.inside in
    let none = rw (c.in-Some.is, c.in-None.is) at c.in_ok-cached.ensures in
    rw (← c.self.view_is, c.new.ensures.items)
    (sources_are (map_of label_set_cmp t.alerts) c.args.rule.now c.args.target.now t.sources None none (λ q h. c.self.invariant.1 q (placed label_set_cmp_total label_set_cmp-IsAntisymmetric t.alerts c.self.invariant.0.numbering q h)))

pub returns-in-Some-listed : goal.returns-in-Some-listed
returns-in-Some-listed c =
    let t = c.self.inside in
    let source = c.in-Some-listed.listed.now in
    let some = rw (c.in-Some.is, c.in-Some-listed.is) at c.in_ok-cached.ensures in
    let are = sources_are (map_of label_set_cmp t.alerts) c.args.rule.now c.args.target.now t.sources (Some source) some (λ q h. c.self.invariant.1 q (placed label_set_cmp_total label_set_cmp-IsAntisymmetric t.alerts c.self.invariant.0.numbering q h)) in
    rw (← c.self.view_is, ← are) c.stored_of.ensures
