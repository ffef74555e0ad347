use Rattle.std.proofs.Common.{◌≡◌, take}
use Rattle.amr_config.specs.Read.NameSets.{names_of}
use Rattle.amr_config.proofs.read.validate.names_of.Given as goal

abbrev pub invariant-loop-receiver : goal.invariant-loop-receiver
invariant-loop-receiver l = l.names.items ≡ names_of (take l.receiver-index l.receivers)
