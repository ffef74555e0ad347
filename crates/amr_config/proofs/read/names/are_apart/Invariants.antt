use Rattle.std.proofs.Common.{◌≡◌, true, drop}
use Rattle.amr_config.specs.Read.Shape.{are_different}
use Rattle.amr_config.specs.Read.NameSets.{IsSetOf}
use Rattle.amr_config.proofs.read.names.are_apart.Given as goal

abbrev pub invariant-loop-index : goal.invariant-loop-index
invariant-loop-index l = record {
  apart : are_different (drop l.index l.names) ≡ true;
  met : IsSetOf (drop l.index l.names) l.built;
}
