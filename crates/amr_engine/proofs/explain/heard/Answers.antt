use Rattle.std.proofs.Common.{option_copied, ◌≡◌, sym, ap, ◌∙◌}
use Rattle.amr_labels.specs.Map.{get}
use Rattle.amr_engine.specs.Flush.{log_key_of}
use Rattle.amr_engine.specs.Explain.{heard, finding_of_entry}
use Rattle.amr_engine.proofs.explain.heard.Goals as goal

pub returns-in_ok-key-in-Some : goal.returns-in_ok-key-in-Some
returns-in_ok-key-in-Some c =
    let state = c.args.store.now.state in
    let group = c.args.group.now in
    let integration = c.in-Some.integration.now in
    let is : c.in_ok-key-in-Some.key ≡ log_key_of state.config group integration =
    c.in_ok-key-in-Some.ensures ∙ ap (λ config. log_key_of config group integration) c.config.ensures in
    c.logged.ensures
    ∙ ap (finding_of_entry c.args.labels.now c.args.timer.now) (c.get.ensures ∙ (λ i. get (c.log.ensures i) (is i)))
    ∙ ap (λ found. heard state group c.args.labels.now c.args.timer.now (option_copied found)) (sym c.in-Some.is)
