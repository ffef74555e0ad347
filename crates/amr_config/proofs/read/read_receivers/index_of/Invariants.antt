use Rattle.std.proofs.Common.{◌≡◌, ◌+◌, drop}
use Rattle.amr_config.specs.Read.ReadReceivers.{index_after}
use Rattle.amr_config.proofs.read.read_receivers.index_of.Given as goal

abbrev pub invariant-loop-index : goal.invariant-loop-index
invariant-loop-index l = index_after l.integrations l.kind ≡ l.index + index_after (drop l.index l.integrations) l.kind
