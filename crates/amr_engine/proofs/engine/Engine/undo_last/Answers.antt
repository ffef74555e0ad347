use Rattle.std.proofs.Common.{sym, ap, ◌∙◌, ◌++◌, ◌∷◌, []}
use Rattle.amr_engine.specs.State.Steps.{Steps}
use Rattle.amr_engine.specs.State.Records.{befores}
use Rattle.amr_engine.proofs.PlacedRuns.{undone_stays}
use Rattle.amr_engine.proofs.Settling.{is_idle, past_undone, records_undone}
use Rattle.amr_engine.proofs.engine.Engine.undo_last.Goals as goal

pub invariant_of-self : goal.invariant_of-self
invariant_of-self c =
    let before = c.self.inside.store in
    let after = c.undo_open.new.self in (
      is_idle c.reopen.new.self after c.undo_open.ensures,
      c.clear.ensures after.state,
      undone_stays before.state after.state (befores before.records before.state) (befores after.records after.state)
          (past_undone before c.reopen.new.self after c.reopen.ensures.state c.reopen.ensures.records c.undo_open.ensures) c.self.invariant.2,
    )

pub returns-clause-records : goal.returns-clause-records
returns-clause-records c = (
  c.reopen.new.self.current,
  sym (ap (λ (v : Steps). v.records) c.self.view_is) ∙ c.reopen.ensures.records ∙ ap (λ rs. rs ++ c.reopen.new.self.current ∷ []) (sym (records_undone c.reopen.new.self c.undo_open.new.self c.undo_open.ensures)),
)
