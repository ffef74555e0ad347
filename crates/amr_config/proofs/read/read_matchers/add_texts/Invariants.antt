use Rattle.std.proofs.Common.{drop}
use Rattle.serde_json.specs.View.{view, items_view}
use Rattle.amr_config.specs.Read.Paths.{path_text}
use Rattle.amr_config.specs.Read.Readings.{items_in_turn}
use Rattle.amr_config.specs.Read.ReadMatchers.{spelled_into, texts_into}
use Rattle.amr_config.proofs.ReadLemmas.Turns.{Ends}
use Rattle.amr_config.proofs.read.read_matchers.add_texts.Given as goal

abbrev pub invariant-loop-index : goal.invariant-loop-index
invariant-loop-index l = Ends (items_in_turn (spelled_into (path_text l.path)) l.index (items_view (drop l.index l.items)) l.matchers.items) (texts_into (path_text l.path) (view l.value) l.fn.matchers.items)
