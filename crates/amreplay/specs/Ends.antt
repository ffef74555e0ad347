-- Which faults say that a reader or a writer failed: those, and no others.
use Rattle.std.specs.Prelude.{◌≡◌, ℕ, Bool, true, Result, Err}
use Rattle.amreplay.specs.Lines.CheckedReader.{HasEnded}
use Rattle.amreplay.specs.declared.fault.Fault.{Fault}
use Rattle.amreplay.specs.declared.fault.Fault.TheVariants.{CannotReadScript, CannotReadCommands, CannotWrite}

-- the writer failed exactly at the fault that says so
abbrev pub EndsBy : {T : Type 0} → Result T Fault → Bool → Bool → Type 0
EndsBy (Err CannotWrite) failed failed' = failed' ≡ true
EndsBy r failed failed' = failed' ≡ failed

-- the reader of the commands failed, or was called as often as it may be, exactly at the fault that
-- says so
abbrev pub ReadsBy : {T : Type 0} → Result T Fault → Bool → Bool → ℕ → Type 0
ReadsBy (Err CannotReadCommands) failed failed' calls = HasEnded failed' calls
ReadsBy r failed failed' calls = failed' ≡ failed

-- the same of the reader of the script
abbrev pub EndsScriptBy : {T : Type 0} → Result T Fault → Bool → Bool → ℕ → Type 0
EndsScriptBy (Err CannotReadScript) failed failed' calls = HasEnded failed' calls
EndsScriptBy r failed failed' calls = failed' ≡ failed
