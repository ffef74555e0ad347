-- The numbers of the reasons that refuse an event.
use Rattle.std.specs.Prelude.{ℕ}
use Rattle.amr_config.specs.Read.Refusals.{number_of}
use Rattle.amr_events.specs.declared.posts.reason.Reason as code
use Rattle.amr_events.specs.declared.posts.reason.Reason.TheVariants.{BadReload, BadAlert, BadSilence, UnknownSilence, SilenceIdTaken, Backwards, TooManyMoves}

-- a reason in the definitions is its number
abbrev pub Reason : Type 0
Reason = ℕ

abbrev pub reason_number : code.Reason → ℕ
reason_number (BadReload cause) = number_of cause
reason_number BadAlert = 16
reason_number BadSilence = 17
reason_number UnknownSilence = 18
reason_number SilenceIdTaken = 19
reason_number Backwards = 20
reason_number TooManyMoves = 21
