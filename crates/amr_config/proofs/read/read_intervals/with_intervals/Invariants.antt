use Rattle.std.proofs.Common.{◌≡◌, drop, Some}
use Rattle.serde_json.specs.View.{view, items_view}
use Rattle.amr_config.specs.Read.Paths.{path_text}
use Rattle.amr_config.specs.Read.Readings.{items_in_turn}
use Rattle.amr_config.specs.Read.ReadIntervals.{interval_into, intervals_from}
use Rattle.amr_config.proofs.read.read_intervals.with_intervals.Given as goal

abbrev pub invariant-loop-index : goal.invariant-loop-index
invariant-loop-index l = items_in_turn (interval_into (path_text l.path)) l.index (items_view (drop l.index l.items)) l.known.intervals ≡ intervals_from (path_text l.path) (Some (view l.value)) l.fn.intervals
