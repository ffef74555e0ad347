-- What is true of every configuration that was read.
use Rattle.std.specs.Prelude.{◌≡◌, ◌⊎◌, ℕ, List, Option, Some, None, Result, Ok, Err}
use Rattle.serde_json.specs.Data.{Data}
use Rattle.amr_labels.specs.Labels.{Text}
use Rattle.amr_config.specs.declared.read.error.Refusal.{Refusal}
use Rattle.amr_config.specs.declared.read.error.Refusal.TheVariants.{BadConfig}
use Rattle.amr_config.specs.declared.stated.stated.Stated.{Stated}
use Rattle.amr_config.specs.Read.Faults.{first_fault, patterns_before, findings_of}
use Rattle.amr_config.specs.Read.Levels.{HasDeepRoute}
use Rattle.amr_config.specs.Read.Readings.{IsBadPattern}
use Rattle.amr_config.specs.Read.Table.{StatesWhole}
use Rattle.amr_config.specs.Read.Judging.{refusal_of}
use Rattle.amr_config.specs.Read.Keys.{HasOrderedKeys}
use Rattle.amr_config.specs.Stated.Config.{Config}
use Rattle.amr_config.specs.Read.Reading.{ConfigIs, unless_refused}
use Rattle.amr_config.specs.Read.Shape.{IsPreorder, IsConfig}

-- the routes are in preorder
abbrev pub RoutesAreInPreorder : Type 0
RoutesAreInPreorder = (d : Data) (config : Config) → ConfigIs d (Ok config) → IsPreorder config

-- one root, a parent before each other route, known receivers with different names, integrations by
-- kind and index
abbrev pub ReadConfigsAreWhole : Type 0
ReadConfigsAreWhole = (d : Data) (config : Config) → HasOrderedKeys d → ConfigIs d (Ok config) → IsConfig config

-- ---- what is read is what the file says

-- what the file says of a configuration
abbrev pub stated_of : Config → Stated
stated_of config = record { routes = config.routes; receivers = config.receivers; rules = config.rules; resolve_timeout = config.resolve_timeout; time_intervals = config.time_intervals }

-- each part of a configuration is what the value has under its key, or the default if it hasn't the
-- key
abbrev pub WhatIsReadIsStated : Type 0
WhatIsReadIsStated = (d : Data) (config : Config) → ConfigIs d (Ok config) → StatesWhole d (stated_of config)

-- ---- refusals

-- `regex` refused one of these patterns
abbrev pub IsPatternRefused : List (List ℕ × Text) → Result Config Refusal → Type 0
IsPatternRefused patterns (Ok config) = ⊥
IsPatternRefused patterns (Err refusal) = IsBadPattern patterns refusal

-- The path of the first fault is answered, if there is one. If there is none, the configuration is
-- validated. Instead of either, the answer may be the path of a pattern before the first fault.
abbrev pub AnswersBy : Data → Option (List ℕ) → Result Config Refusal → Type 0
AnswersBy d (Some path) answer = (answer ≡ Err (BadConfig path)) ⊎ IsPatternRefused (patterns_before (findings_of d)) answer
AnswersBy d None answer = ((stated : Stated) × StatesWhole d stated × (answer ≡ unless_refused stated (refusal_of stated))) ⊎ IsPatternRefused (patterns_before (findings_of d)) answer

abbrev pub AnswersGoByTheFirstFault : Type 0
AnswersGoByTheFirstFault = (d : Data) (answer : Result Config Refusal) → ¬ HasDeepRoute d → ConfigIs d answer → AnswersBy d (first_fault (findings_of d)) answer
