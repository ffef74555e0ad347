use Rattle.serde_json.specs.View.{view, members_view}
use Rattle.amr_config.specs.Read.Paths.{path_text}
use Rattle.amr_config.specs.Read.Readings.{members_in_turn}
use Rattle.amr_config.specs.Read.ReadMatchers.{matcher_into, members_into}
use Rattle.amr_config.proofs.ReadLemmas.Turns.{Ends}
use Rattle.amr_config.proofs.read.read_matchers.add_members.Given as goal

abbrev pub invariant-loop-key : goal.invariant-loop-key
invariant-loop-key l = Ends (members_in_turn (matcher_into l.operator (path_text l.path)) (members_view l.key-iterator) l.matchers.items) (members_into l.operator (path_text l.path) (view l.value) l.fn.matchers.items)
