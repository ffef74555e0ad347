-- When the routes of a configuration have too many levels.
use Rattle.std.specs.Prelude.{◌≡◌, ◌↔◌, Result, Err}
use Rattle.serde_json.specs.Data.{Data}
use Rattle.amr_config.specs.declared.read.error.Refusal.{Refusal}
use Rattle.amr_config.specs.declared.read.error.Refusal.TheVariants.{Other}
use Rattle.amr_config.specs.declared.read.error.Cause.TheVariants.{TooDeep}
use Rattle.amr_config.specs.Stated.Config.{Config}
use Rattle.amr_config.specs.Read.Reading.{config_of, ConfigIs}
use Rattle.amr_config.specs.Read.Levels.{HasDeepRoute}

-- a configuration is refused as too deep exactly if a route is at level 33 or deeper
abbrev pub DeepIsRefused : Type 0
DeepIsRefused = (d : Data) → (config_of d ≡ Err (Other TooDeep)) ↔ HasDeepRoute d

-- the same is true of each answer that reading may give, whichever patterns are refused
abbrev pub DeepIsAnswered : Type 0
DeepIsAnswered = (d : Data) (answer : Result Config Refusal) → ConfigIs d answer → (answer ≡ Err (Other TooDeep)) ↔ HasDeepRoute d
