use Rattle.std.proofs.Common.{◌<◌, ℕ}
use Rattle.amr_config.specs.Subtrees.{HasParentFrom}
use Rattle.amr_config.proofs.subtrees.subtree_end.Given as goal

abbrev pub invariant-loop-later : goal.invariant-loop-later
invariant-loop-later l = (m : ℕ) → l.number < m → m < l.later → HasParentFrom l.routes l.number m
