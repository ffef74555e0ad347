-- What a reader returns, compared with what reading means: the same, unless memory runs out.
use Rattle.std.specs.Prelude.{◌≡◌, ℕ, List, Result, Ok, Err}
use Rattle.amr_config.specs.declared.read.error.Refusal.{Refusal}
use Rattle.amr_config.specs.declared.read.error.Refusal.TheVariants.{BadConfig}
use Rattle.amr_config.specs.declared.read.error.ConfigError.{ConfigError}
use Rattle.amr_config.specs.declared.read.error.ConfigError.TheVariants.{Memory, Refused}
use Rattle.amr_config.specs.Read.Readings.{Reading, plain, give, MayGive}

-- the error has this path; running out of memory fits any path
abbrev pub IsFault : ConfigError → List ℕ → Type 0
IsFault Memory path = Unit {0}
IsFault (Refused refusal) path = refusal ≡ BadConfig path

-- ---- parts without patterns

abbrev pub Fails : {Y : Type 0} → ConfigError → Reading Y → Type 0
Fails Memory reading = Unit {0}
Fails (Refused refusal) reading = reading ≡ plain (Err refusal)

abbrev pub Gives : {X Y : Type 0} → (X → Y) → Result X ConfigError → Reading Y → Type 0
Gives view (Ok x) reading = reading ≡ give (view x)
Gives view (Err e) reading = Fails e reading

-- the same for a function that changes its argument: on `Ok` the argument is what was read
abbrev pub Changes : {X Y : Type 0} → (X → Y) → Result (Unit {0}) ConfigError → X → Reading Y → Type 0
Changes view (Ok u) new reading = reading ≡ give (view new)
Changes view (Err e) new reading = Fails e reading

-- ---- parts that may have patterns

abbrev pub Stops : {Y : Type 0} → ConfigError → (Result Y Refusal → Type 0) → Type 0
Stops Memory Is = Unit {0}
Stops (Refused refusal) Is = Is (Err refusal)

-- what is returned satisfies the property, unless memory ran out
abbrev pub Answers : {X Y : Type 0} → (X → Y) → Result X ConfigError → (Result Y Refusal → Type 0) → Type 0
Answers view (Ok x) Is = Is (Ok (view x))
Answers view (Err e) Is = Stops e Is

abbrev pub Reads : {X Y : Type 0} → (X → Y) → Result X ConfigError → Reading Y → Type 0
Reads view result reading = Answers view result (MayGive reading)

-- the same for a function that changes its argument
abbrev pub ReadsInto : {X Y : Type 0} → (X → Y) → Result (Unit {0}) ConfigError → X → Reading Y → Type 0
ReadsInto view (Ok u) new reading = MayGive reading (Ok (view new))
ReadsInto view (Err e) new reading = Stops e (MayGive reading)
