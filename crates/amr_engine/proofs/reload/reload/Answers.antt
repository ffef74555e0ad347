use Rattle.std.proofs.Common.{fold, length, ap, ◌∙◌}
use Rattle.amr_engine.specs.State.State.{State, insert_into_groups}
use Rattle.amr_engine.specs.Events.{with_config}
use Rattle.std.proofs.lemmas.Result.{on_ok_weaker}
use Rattle.amr_engine.proofs.Growing.{reloaded}
use Rattle.amr_engine.proofs.reload.reload.Goals as goal

pub returns-clause-grown : goal.returns-clause-grown
unfolding with_config
returns-clause-grown c =
    let all = c.as_slice.ensures.value ∙ c.in_ok-alerts.ensures in
    on_ok_weaker c.insert_all.result (λ placed.
    reloaded c.args.store.now.state c.args.config c.replace_config.new.self.state.config c.as_slice.result.now c.insert_all.new.store.state (length c.args.store.now.current)
    (length c.replace_config.new.self.current) (length c.insert_all.new.store.current) (placed ∙ (λ i. fold insert_into_groups (c.in_ok-replace_config.ensures.ok i) (all i)))
    (ap (λ (s : State). s.config) c.in_ok-replace_config.ensures.ok) all c.replace_config.ensures.grown c.insert_all.ensures.grown)
    c.insert_all.ensures.ok
