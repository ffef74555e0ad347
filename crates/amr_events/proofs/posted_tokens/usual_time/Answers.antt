use Rattle.std.proofs.Common.{◌≡◌, Some, sym}
use Rattle.amr_config.specs.Read.Members.{unless_null}
use Rattle.amr_events.specs.Posted.{time_at, time_of}
use Rattle.amr_events.proofs.Stating.{states_text}
use Rattle.amr_events.proofs.posted_tokens.usual_time.Goals as goal

pub returns-in-Ok-clause-read : goal.returns-in-Ok-clause-read
returns-in-Ok-clause-read c depth =
    let given : time_of c.in_ok-string.field-0.now ≡ Some c.in-Ok.time = sym c.in-Ok.ensures.value in
    states_text depth (λ d. time_at (unless_null (Some d)) ≡ Some c.in-Ok.time) _ _ c.in_ok-string.field-0.now c.in_ok-string.ensures given
