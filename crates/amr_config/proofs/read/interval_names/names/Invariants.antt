use Rattle.std.proofs.Common.{◌≡◌, drop}
use Rattle.serde_json.specs.View.{view, items_view}
use Rattle.amr_config.specs.Read.Paths.{path_text}
use Rattle.amr_config.specs.Read.Readings.{items_in_turn}
use Rattle.amr_config.specs.Read.ReadIntervals.{name_into, names_at}
use Rattle.amr_config.proofs.read.interval_names.names.Given as goal

abbrev pub invariant-loop-index : goal.invariant-loop-index
invariant-loop-index l = items_in_turn (name_into (view l.whole.value.now) (path_text l.path)) l.index (items_view (drop l.index l.items)) l.names ≡ names_at (view l.whole.value.now) (path_text l.path) (view l.value)
