use Rattle.std.proofs.Common.{Ok, Err, refl, ap, arith}
use Rattle.amr_config.specs.Read.Refusals.{number_of}
use Rattle.amr_events.specs.ReloadCache.{Spells}
use Rattle.amr_events.proofs.line.reload.Goals as goal

pub returns-in-Some : goal.returns-in-Some
returns-in-Some c =
    let spelled : Spells c.as_str.result.now c.in-Some.cached = rw c.in-Some.is at c.in_ok-cached.ensures in
    (Ok c.in-Some.cached, grind (arith, c.as_str.ensures.value, c.in_ok-text.ensures.reads_back c.requires), refl)

pub returns-in-Ok : goal.returns-in-Ok
returns-in-Ok c = (Ok c.in-Ok.config, c.in-Ok.ensures, refl)

pub returns-in-Err-Refused : goal.returns-in-Err-Refused
returns-in-Err-Refused c = (Err c.in-Err-Refused.refusal, rw c.in-Err-Refused.field-0-is at c.in-Err-Refused.ensures, ap (λ cause. Err (number_of cause)) c.cause.ensures)
