-- What a reader may return, besides what the definition gives.
use Rattle.std.specs.Prelude.{◌≡◌, Option, Some, None, Result, Ok, Err}
use Rattle.amr_events.specs.declared.error.Fault.{Fault}
use Rattle.amr_events.specs.declared.error.LineError.{LineError}
use Rattle.amr_events.specs.declared.error.LineError.TheVariants as line
use Rattle.amr_events.specs.declared.error.ScriptError.{ScriptError}
use Rattle.amr_events.specs.declared.error.ScriptError.TheVariants as script

-- running out of memory says nothing about the text
abbrev pub IsFaulty : {Y : Type 0} → LineError → Option Y → Type 0
IsFaulty line.Memory read = Unit {0}
IsFaulty line.Faulty read = read ≡ None

-- what is read, as a value, is what the definition gives
abbrev pub Reads : {X Y : Type 0} → (X → Y) → Result X LineError → Option Y → Type 0
Reads view (Ok x) read = read ≡ Some (view x)
Reads view (Err e) read = IsFaulty e read

-- what is read satisfies this; nothing is read if the definition gives nothing
abbrev pub ReadsSuch : {X Y : Type 0} → (X → Type 0) → Result X LineError → Option Y → Type 0
ReadsSuch IsSuch (Ok x) read = IsSuch x
ReadsSuch IsSuch (Err e) read = IsFaulty e read

-- what is read is related in this way to what the definition gives
abbrev pub ReadsBut : {X Y : Type 0} → (Y → X → Type 0) → Result X LineError → Option Y → Type 0
ReadsBut Is (Ok x) read = (y : _) × (read ≡ Some y) × Is y x
ReadsBut Is (Err e) read = IsFaulty e read

abbrev pub IsStop : (Fault → Type 0) → ScriptError → Type 0
IsStop Is script.Memory = Unit {0}
IsStop Is (script.Refused fault) = Is fault

abbrev pub IsRefused : {Y : Type 0} → (Result Y Fault → Type 0) → ScriptError → Type 0
IsRefused Is script.Memory = Unit {0}
IsRefused Is (script.Refused fault) = Is (Err fault)

-- what is returned is true of the text, unless memory ran out
abbrev pub Answers : {Y : Type 0} → (Result Y Fault → Type 0) → Result Y ScriptError → Type 0
Answers Is (Ok y) = Is (Ok y)
Answers Is (Err e) = IsRefused Is e

-- a fault that is returned satisfies this, unless memory ran out
abbrev pub Stops : {X : Type 0} → (Fault → Type 0) → Result X ScriptError → Type 0
Stops Is (Ok x) = Unit {0}
Stops Is (Err e) = IsStop Is e
