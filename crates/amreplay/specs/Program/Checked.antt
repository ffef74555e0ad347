-- What a check of a configuration prints.
use Rattle.std.specs.Prelude.{◌≡◌, ◌⊎◌, ℕ, List, [], ◌∷◌, codes, length, Option, Result, Ok, Err}
use Rattle.std.specs.Io.KnownBytes.{Appends, Keeps}
use Rattle.serde_json.specs.Data.{Data, object}
use Rattle.amr_labels.specs.Labels.{Text}
use Rattle.amr_config.specs.Stated.Config as config
use Rattle.amreplay.specs.declared.fault.Fault.{Fault}
use Rattle.amreplay.specs.declared.fault.Fault.TheVariants.{Config, CannotWrite, Memory}
use Rattle.amreplay.specs.Program.Files.{ConfigFileIs}
use Rattle.amreplay.specs.Lines.CheckedWriter.{AppendsBeginning}
use Rattle.amreplay.specs.Lines.Printed.{object_of, number_data, data_line}

-- the numbers of receivers, of routes with the root, and of inhibition rules
abbrev pub counts_data : config.Config → Data
counts_data config = object (object_of (
    (codes "receivers", number_data (length config.receivers))
    ∷ (codes "routes", number_data (length config.routes))
    ∷ (codes "rules", number_data (length config.rules)) ∷ []))

abbrev pub counts_line : config.Config → Text
counts_line config = data_line (counts_data config)

-- the configuration is refused; running out of memory says nothing about it
abbrev pub IsRefused : List ℕ → Fault → Type 0
IsRefused bytes (Config refusal) = ConfigFileIs bytes (Err refusal)
IsRefused bytes Memory = Unit {0}
IsRefused bytes fault = ⊥

-- A check of a configuration. If it is refused or memory runs out, nothing is written. Otherwise
-- the line with its numbers is written, or a prefix of it if the writer fails.
abbrev pub CheckLeaves : Option Text → Option Text → List ℕ → Result (Unit {0}) Fault → Type 0
CheckLeaves old new bytes (Ok u) = (held : config.Config) × ConfigFileIs bytes (Ok held) × Appends old new (counts_line held)
CheckLeaves old new bytes (Err fault) =
    (IsRefused bytes fault × Keeps old new)
    ⊎ ((held : config.Config) × ConfigFileIs bytes (Ok held) × (fault ≡ CannotWrite) × AppendsBeginning old new (counts_line held))
