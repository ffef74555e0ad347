use Rattle.std.proofs.Common.{◌<◌, length, sym, ap, ◌∙◌, arith}
use Rattle.amr_engine.specs.State.State.{start}
use Rattle.amr_replay.specs.Session.{View}
use Rattle.amr_replay.proofs.Recorded.{record_at}
use Rattle.amr_replay.proofs.session.Session.record_len.Goals as goal

pub returns-clause-entries : goal.returns-clause-entries
returns-clause-entries c =
    let a = c.self.inside in
    let before : c.args.index < a.cursor = omega (arith, c.requires, ap (λ (v : View). v.cursor) c.self.view_is) in
    rw (← c.self.view_is) (λ event at. record_at a.cursor (start a.config) a.script.events a.engine.records c.args.index event c.record_len.result c.self.invariant.records before at c.record_len.ensures)

pub returns-clause-refused : goal.returns-clause-refused
returns-clause-refused c = λ event reason at refused. let has = returns-clause-entries c event at in sym has.2 ∙ ap length (has.1.empty reason refused)

pub returns-clause-label : goal.returns-clause-label
returns-clause-label c = λ event at label. let has = returns-clause-entries c event at in sym has.2 ∙ ap length (has.1.label label)
