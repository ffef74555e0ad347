use Rattle.std.proofs.Common.{◌≡◌, drop}
use Rattle.serde_json.specs.View.{view, items_view}
use Rattle.amr_config.specs.Read.Paths.{path_text}
use Rattle.amr_config.specs.Read.Readings.{items_in_turn}
use Rattle.amr_config.specs.Read.Members.{text_into, texts_at}
use Rattle.amr_config.proofs.read.members.texts.Given as goal

abbrev pub invariant-loop-index : goal.invariant-loop-index
invariant-loop-index l = items_in_turn (text_into (path_text l.path)) l.index (items_view (drop l.index l.items)) l.texts ≡ texts_at (path_text l.path) (view l.value)
