-- The outcome that the code returns, as an outcome of the definitions.
use Rattle.std.specs.Prelude.{ℕ, List}
use Rattle.amr_events.specs.Posts.Reasons.{reason_number}
use Rattle.amr_engine.specs.declared.state.notification.Notification.{Notification}
use Rattle.amr_engine.specs.Events as events
use Rattle.amr_engine.specs.declared.outcome.Outcome as code
use Rattle.amr_engine.specs.declared.outcome.Outcome.TheVariants.{Accepted, Refused}

abbrev pub acceptance : ℕ → List Notification → List ℕ → events.Outcome
acceptance moves notes skipped = events.Outcome.Accepted moves notes skipped

abbrev pub refusal : ℕ → events.Outcome
refusal reason = events.Outcome.Refused reason

abbrev pub outcome_view : code.Outcome → events.Outcome
outcome_view (Accepted moves notes skipped) = events.Outcome.Accepted moves notes skipped
outcome_view (Refused reason) = events.Outcome.Refused (reason_number reason)
