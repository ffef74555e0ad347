use Rattle.std.proofs.Common.{take}
use Rattle.amr_config.specs.Receivers.{AreReceivers}
use Rattle.amr_config.proofs.receiver_indexes.receiver_indexes.Given as goal

abbrev pub invariant-loop-number : goal.invariant-loop-number
invariant-loop-number l = AreReceivers l.stated.receivers (take l.number l.settings) l.indexes.items
