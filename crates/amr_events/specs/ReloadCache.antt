-- Configurations of reloads that were read before.
use Rattle.std.specs.Prelude.{◌≡◌, ℕ, List, Option, Some, Result, Ok, option_map}
use Rattle.serde_json.specs.Read.{read}
use Rattle.amr_config.specs.Stated.Config.{Config}
use Rattle.amr_config.specs.declared.read.error.Refusal.{Refusal}
use Rattle.amr_config.specs.Read.Reading.{config_of}

-- what the value of a text is read as, if all patterns are good
abbrev pub config_spelled : List ℕ → Option (Result Config Refusal)
config_spelled text = option_map config_of (read text)

-- the text spells a value that is read as this configuration
abbrev pub Spells : List ℕ → Config → Type 0
Spells text config = config_spelled text ≡ Some (Ok config)
