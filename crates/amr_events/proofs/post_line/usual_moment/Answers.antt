use Rattle.std.proofs.Common.{◌≡◌, Some, option_and_then, rules}
use Rattle.serde_json.specs.Find.{as_str}
use Rattle.amr_time.specs.MomentRead.{moment_at}
use Rattle.amr_events.proofs.Stating.{states_text}
use Rattle.amr_events.proofs.post_line.usual_moment.Goals as goal

pub returns-in-Ok-clause-read : goal.returns-in-Ok-clause-read
returns-in-Ok-clause-read c depth =
    states_text depth (λ d. option_and_then moment_at (as_str d) ≡ Some c.in-Ok.at) _ _ c.in_ok-string.field-0.now c.in_ok-string.ensures (search rules)
