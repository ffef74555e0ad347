use Rattle.std.proofs.Common.{◌≡◌}
use Rattle.serde_json.specs.View.{view, members_view}
use Rattle.amr_config.specs.Read.Paths.{path_text}
use Rattle.amr_config.specs.Read.Readings.{members_in_turn}
use Rattle.amr_config.specs.Read.ReadReceivers.{kind_into, kinds_at}
use Rattle.amr_config.proofs.read.read_receivers.add_kinds.Given as goal

abbrev pub invariant-loop-key : goal.invariant-loop-key
invariant-loop-key l = members_in_turn (kind_into l.before (path_text l.path)) (members_view l.key-iterator) l.integrations.items ≡ kinds_at l.before (path_text l.path) (view l.value) l.fn.integrations.items
