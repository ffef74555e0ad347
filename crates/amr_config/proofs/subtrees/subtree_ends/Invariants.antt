use Rattle.std.proofs.Common.{◌≡◌, ◌<◌, ℕ, length, get_or}
use Rattle.amr_config.specs.Subtrees.{IsSubtreeEnd}
use Rattle.amr_config.proofs.subtrees.subtree_ends.Given as goal

abbrev pub invariant-loop-number : goal.invariant-loop-number
invariant-loop-number l = record {
  each : (n : ℕ) → n < l.number → IsSubtreeEnd l.routes n (get_or l.ends n 0);
  all : length l.ends ≡ l.number;
}
