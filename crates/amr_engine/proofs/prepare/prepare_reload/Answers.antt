use Rattle.std.proofs.Common.{Err, Result, sym, subst}
use Rattle.amr_config.specs.Stated.Config.{Config}
use Rattle.amr_events.specs.Actions.Events.{Act}
use Rattle.amr_events.specs.Actions.Acts.{by_number}
use Rattle.amr_events.specs.Posts.Reasons.{reason_number}
use Rattle.amr_events.specs.declared.posts.reason.Reason.{Reason}
use Rattle.amr_engine.specs.Prepared.{IsPrepared, DoesAsPrepared}
use Rattle.amr_engine.specs.declared.prepare.Prepared.TheVariants as prepared
use Rattle.amr_engine.proofs.Preparing.{some_reload, no_reload}
use Rattle.amr_engine.proofs.prepare.prepare_reload.Goals as goal

pub returns-in-Err : goal.returns-in-Err
returns-in-Err c = λ s at.
    subst (λ (read : Result Config Reason). IsPrepared s at (Act.Reload (by_number read)) (Err c.in-Err.reason)) (sym c.in-Err.is) (no_reload s at (reason_number c.in-Err.reason))

pub returns-in_ok-clone-in-Ok : goal.returns-in_ok-clone-in-Ok
returns-in_ok-clone-in-Ok c = λ s at.
    subst (λ (read : Result Config Reason). DoesAsPrepared s at (Act.Reload (by_number read)) (prepared.Reload c.in_ok-clone-in-Ok.field-0)) (sym c.in-Ok.is)
    (some_reload s at _ _ c.in_ok-clone-in-Ok.ensures.cases)
