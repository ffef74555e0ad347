-- What the bytes of the two files spell, and what a run over them leaves in a writer.
use Rattle.std.specs.Prelude.{◌≡◌, ◌⊎◌, ℕ, Bool, true, false, List, [], length, Option, Some, None, Result, Ok, Err, nat_lt, if◌then◌else◌}
use Rattle.std.specs.Str.{is_utf8}
use Rattle.std.specs.Io.KnownBytes.{Keeps}
use Rattle.serde_json.specs.Data.{Data}
use Rattle.serde_json.specs.Read.{read}
use Rattle.amr_labels.specs.Labels.{Text}
use Rattle.amr_config.specs.Stated.Config as config
use Rattle.amr_config.specs.declared.read.error.Refusal.{Refusal}
use Rattle.amr_config.specs.declared.read.error.Refusal.TheVariants.{BadConfig}
use Rattle.amr_config.specs.declared.read.error.ConfigError.{ConfigError}
use Rattle.amr_config.specs.declared.read.error.ConfigError.TheVariants as config_error
use Rattle.amr_config.specs.Read.Reading.{ConfigIs}
use Rattle.amr_events.specs.Scripts.{ScriptIs}
use Rattle.amr_events.specs.Scripts as scripts
use Rattle.amr_replay.specs.Session.{View, at_cursor}
use Rattle.amreplay.specs.declared.fault.Fault.{Fault}
use Rattle.amreplay.specs.declared.fault.Fault.TheVariants.{Config, Script, CannotReadScript, Memory}
use Rattle.amreplay.specs.Program.Runs.{RunLeaves}

-- the value that bytes spell, if they are JSON in UTF-8
unfoldable pub json_of : List ℕ → Option Data
json_of bytes = if is_utf8 bytes then read bytes else None

abbrev pub longest_config : ℕ
longest_config = 1_048_576

-- the configuration of a value, or its refusal; the path of a whole file is empty
abbrev pub ValueIs : Option Data → Result config.Config Refusal → Type 0
ValueIs None judged = judged ≡ Err (BadConfig [])
ValueIs (Some value) judged = ConfigIs value judged

abbrev pub ConfigIsUnless : Bool → List ℕ → Result config.Config Refusal → Type 0
ConfigIsUnless true bytes judged = judged ≡ Err (BadConfig [])
ConfigIsUnless false bytes judged = ValueIs (json_of bytes) judged

-- the configuration of a file, or its refusal; a file that is too long is refused as a whole
unfoldable pub ConfigFileIs : List ℕ → Result config.Config Refusal → Type 0
ConfigFileIs bytes judged = ConfigIsUnless (nat_lt longest_config (length bytes)) bytes judged

-- what is returned for the bytes of a configuration; running out of memory says nothing about them
abbrev pub ReadsAs : List ℕ → Result config.Config ConfigError → Type 0
ReadsAs bytes (Ok config) = ConfigFileIs bytes (Ok config)
ReadsAs bytes (Err config_error.Memory) = Unit {0}
ReadsAs bytes (Err (config_error.Refused refusal)) = ConfigFileIs bytes (Err refusal)

-- the files hold the configuration and the script
pub record Hold (config_bytes script_bytes : List ℕ) (held : config.Config) (script : scripts.Script) : Type 0 where
  pub config_read : ConfigFileIs config_bytes (Ok held)
  pub script_read : ScriptIs script_bytes (Ok script)

-- a file is refused, the configuration before the script; that a script can't be read, or that
-- memory ran out, says nothing about them
abbrev pub AreRefused : List ℕ → List ℕ → Fault → Type 0
AreRefused bytes script_bytes (Config refusal) = ConfigFileIs bytes (Err refusal)
AreRefused bytes script_bytes (Script fault) = (held : config.Config) × ConfigFileIs bytes (Ok held) × ScriptIs script_bytes (Err fault)
AreRefused bytes script_bytes CannotReadScript = Unit {0}
AreRefused bytes script_bytes Memory = Unit {0}
AreRefused bytes script_bytes fault = ⊥

-- what the two files hold, or the fault that refuses one of them
abbrev pub FilesAre : List ℕ → List ℕ → Result (config.Config × scripts.Script) Fault → Type 0
FilesAre bytes script_bytes (Ok held) = Hold bytes script_bytes held.0 held.1
FilesAre bytes script_bytes (Err fault) = AreRefused bytes script_bytes fault

-- the script of a session
abbrev pub script_of : View → scripts.Script
script_of session = record { version = session.version; events = session.events }

-- the session of the files at its start, or the fault that refuses one of them
abbrev pub Opens : List ℕ → List ℕ → Result View Fault → Type 0
Opens bytes script_bytes (Ok session) =
    Hold bytes script_bytes session.config (script_of session) × (session ≡ at_cursor session.config session.version session.events 0)
Opens bytes script_bytes (Err fault) = AreRefused bytes script_bytes fault

-- A run over two files. If one is refused, its fault is returned and nothing is written; otherwise
-- the lines of the run are written.
abbrev pub FilesLeave : Option Text → Option Text → List ℕ → List ℕ → Result (Unit {0}) Fault → Type 0
FilesLeave old new bytes script_bytes (Ok u) = (held : config.Config) × (script : scripts.Script) × Hold bytes script_bytes held script × RunLeaves old new held script.events (Ok u)
FilesLeave old new bytes script_bytes (Err fault) =
    (AreRefused bytes script_bytes fault × Keeps old new)
    ⊎ ((held : config.Config) × (script : scripts.Script) × Hold bytes script_bytes held script × RunLeaves old new held script.events (Err fault))
