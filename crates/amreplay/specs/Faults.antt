-- The lines of faults on standard error, and the exit statuses.
use Rattle.std.specs.Prelude.{ℕ, List, [], ◌∷◌, ◌++◌, codes, decimal}
use Rattle.amr_config.specs.declared.read.error.Refusal.{Refusal}
use Rattle.amr_config.specs.declared.read.error.Refusal.TheVariants.{BadConfig, Other}
use Rattle.amr_config.specs.declared.read.error.ConfigError.{ConfigError}
use Rattle.amr_config.specs.Read.Refusals.{printed_name_of, cause_of}
use Rattle.amr_config.specs.declared.read.error.ConfigError.TheVariants as config_error
use Rattle.amr_events.specs.declared.error.Fault.{Fault as ScriptFault}
use Rattle.amr_events.specs.declared.error.Fault.TheVariants.{BadLine, LineTooLong, TooManyEvents}
use Rattle.amr_events.specs.declared.error.ScriptError.{ScriptError}
use Rattle.amr_events.specs.Faults.{name_of_fault}
use Rattle.amr_events.specs.declared.error.ScriptError.TheVariants as script_error
use Rattle.amreplay.specs.declared.fault.Fault.{Fault}
use Rattle.amreplay.specs.declared.fault.Fault.TheVariants.{Config, Script, CannotReadConfig, CannotReadScript, CannotReadCommands, CannotWrite, Memory, Usage}
use Rattle.amreplay.specs.declared.fault.Location.{Location}
use Rattle.amreplay.specs.declared.fault.Location.TheVariants as location

-- the fault of an error
abbrev pub config_fault : ConfigError → Fault
config_fault config_error.Memory = Memory
config_fault (config_error.Refused refusal) = Config refusal

abbrev pub script_fault : ScriptError → Fault
script_fault script_error.Memory = Memory
script_fault (script_error.Refused fault) = Script fault

-- what the line of a fault begins with
abbrev pub fault_prefix : Fault → List ℕ
fault_prefix (Config refusal) = codes "amreplay: config: "
fault_prefix (Script fault) = codes "amreplay: script: "
fault_prefix fault = codes "amreplay: "

abbrev pub fault_name : Fault → List ℕ
fault_name (Config refusal) = printed_name_of (cause_of refusal)
fault_name (Script fault) = name_of_fault fault
fault_name CannotReadConfig = codes "cannot read config"
fault_name CannotReadScript = codes "cannot read script"
fault_name CannotReadCommands = codes "cannot read commands"
fault_name CannotWrite = codes "cannot write"
fault_name Memory = codes "out of memory"
fault_name Usage = codes "usage"

-- the location of a fault: none that is printed, a path in the configuration, or a line of the
-- script
pub data FaultLocation : Type 0 where
  Nowhere : FaultLocation
  AtPath : List ℕ → FaultLocation
  AtLine : ℕ → FaultLocation

abbrev pub location_of : Location → FaultLocation
location_of location.Nowhere = Nowhere
location_of (location.AtPath path) = AtPath path.now
location_of (location.AtLine line) = AtLine line

abbrev pub path_location : List ℕ → FaultLocation
path_location [] = Nowhere
path_location (b ∷ bs) = AtPath (b ∷ bs)

abbrev pub config_location : Refusal → FaultLocation
config_location (BadConfig path) = path_location path
config_location (Other cause) = Nowhere

abbrev pub script_location : ScriptFault → FaultLocation
script_location (BadLine line) = AtLine line
script_location (LineTooLong line) = AtLine line
script_location TooManyEvents = Nowhere

abbrev pub fault_location : Fault → FaultLocation
fault_location (Config refusal) = config_location refusal
fault_location (Script fault) = script_location fault
fault_location fault = Nowhere

abbrev pub line_with_location : List ℕ → List ℕ → FaultLocation → List ℕ
line_with_location prefix name Nowhere = prefix ++ (name ++ codes "\n")
line_with_location prefix name (AtPath path) = prefix ++ (name ++ (codes " at " ++ (path ++ codes "\n")))
line_with_location prefix name (AtLine line) = prefix ++ (name ++ (codes " at line " ++ (decimal line ++ codes "\n")))

abbrev pub fault_line : Fault → List ℕ
fault_line fault = line_with_location (fault_prefix fault) (fault_name fault) (fault_location fault)

abbrev pub status_of : Fault → ℕ
status_of Usage = 2
status_of fault = 1
