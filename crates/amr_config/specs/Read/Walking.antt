-- Reading a whole configuration from its value.
use Rattle.std.specs.Prelude.{[], codes}
use Rattle.serde_json.specs.Data.{Data}
use Rattle.amr_config.specs.declared.stated.stated.Stated.{Stated}
use Rattle.amr_config.specs.Read.ReadIntervals.{intervals_at}
use Rattle.amr_config.specs.Read.Readings.{Reading, give, ◌>>=◌}
use Rattle.amr_config.specs.Read.Timeout.{timeout_at}
use Rattle.amr_config.specs.Read.ReadRules.{rules_at}
use Rattle.amr_config.specs.Read.ReadReceivers.{receivers_at}
use Rattle.amr_config.specs.Read.ReadRoutes.{routes_at}

-- the parts of a configuration, by key in byte order
unfoldable pub walked_at : Data → Reading Stated
walked_at d = do
  timeout ← timeout_at d
  rules ← rules_at d
  mute ← intervals_at (codes "mute_time_intervals") d []
  receivers ← receivers_at d
  routes ← routes_at d
  named ← intervals_at (codes "time_intervals") d mute
  give (record { routes = routes; receivers = receivers; rules = rules; resolve_timeout = timeout; time_intervals = named })
