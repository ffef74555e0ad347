-- A script is refused exactly if it can't be read.
use Rattle.std.specs.Prelude.{◌≡◌, ℕ, List, Result, Err}
use Rattle.amr_events.specs.Scripts.{Script, ScriptIs}
use Rattle.amr_events.specs.declared.error.Fault.{Fault}

-- a script with a first fault has no other first fault, and can't be read
abbrev pub AFaultIsTheOnlyAnswer : Type 0
AFaultIsTheOnlyAnswer = (bytes : List ℕ) (fault : Fault) (answer : Result Script Fault) → ScriptIs bytes (Err fault) → ScriptIs bytes answer → answer ≡ Err fault
