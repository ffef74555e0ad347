-- The timeout of alerts that are posted without an end (`resolve_timeout`).
use Rattle.std.specs.Prelude.{◌*◌, ℕ, List, [], Option, Some, None, codes}
use Rattle.serde_json.specs.Data.{Data}
use Rattle.amr_time.specs.Time.{Span, minute}
use Rattle.amr_config.specs.Read.Members.{optional_member, members_at, span_at}
use Rattle.amr_config.specs.Read.Readings.{Reading, give, ◌>>=◌}

-- what the member `global` states
unfoldable pub timeout_in : List ℕ → Data → Reading (Option Span)
timeout_in path d = do
  whole ← members_at path d
  optional_member span_at path (codes "resolve_timeout") d

abbrev pub timeout_stated : Option (Option Span) → Span
timeout_stated None = 5 * minute
timeout_stated (Some None) = 5 * minute
timeout_stated (Some (Some span)) = span

-- the timeout of a whole configuration
unfoldable pub timeout_at : Data → Reading Span
timeout_at d = do
  whole ← members_at [] d
  timeout ← optional_member timeout_in [] (codes "global") d
  give (timeout_stated timeout)
