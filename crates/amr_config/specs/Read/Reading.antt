-- Reading a configuration from its value.
use Rattle.std.specs.Prelude.{Option, Some, None, Result, Ok, Err, if◌then◌else◌}
use Rattle.serde_json.specs.Data.{Data}
use Rattle.amr_config.specs.declared.read.error.Refusal.{Refusal}
use Rattle.amr_config.specs.declared.read.error.Refusal.TheVariants.{Other}
use Rattle.amr_config.specs.declared.read.error.Cause.TheVariants.{TooDeep}
use Rattle.amr_config.specs.declared.stated.stated.Stated.{Stated}
use Rattle.amr_config.specs.Stated.Config.{Config}
use Rattle.amr_config.specs.Settled.{stated_config}
use Rattle.amr_config.specs.Read.Readings.{Reading, plain, ◌>>=◌, MayGive}
use Rattle.amr_config.specs.Read.RouteParts.{is_too_deep}
use Rattle.amr_config.specs.Read.Judging.{refusal_of}
use Rattle.amr_config.specs.Read.Walking.{walked_at}

abbrev pub unless_refused : Stated → Option Refusal → Result Config Refusal
unless_refused stated None = Ok (stated_config stated)
unless_refused stated (Some refusal) = Err refusal

-- too many levels come first, then the first faulty value of the walk, then the refusal with the
-- least number
unfoldable pub reading_of : Data → Reading Config
reading_of d = if is_too_deep d then plain (Err (Other TooDeep)) else (walked_at d >>= λ stated. plain (unless_refused stated (refusal_of stated)))

-- the configuration if all patterns are good
abbrev pub config_of : Data → Result Config Refusal
config_of d = (reading_of d).value

-- the configuration if all patterns are good, or the refusal of a pattern that is met
abbrev pub ConfigIs : Data → Result Config Refusal → Type 0
ConfigIs d = MayGive (reading_of d)
