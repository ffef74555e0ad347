use Rattle.std.proofs.Common.{take}
use Rattle.amr_config.specs.Read.NameSets.{IsSetOf}
use Rattle.amr_config.proofs.read.names.set_of.Given as goal

abbrev pub invariant-loop-name : goal.invariant-loop-name
invariant-loop-name l = IsSetOf (take l.name-index l.names) l.set
