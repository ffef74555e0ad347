use Rattle.std.proofs.Common.{◌≡◌, take}
use Rattle.amr_labels.specs.Matcher.Candidates.{kept_where, equal_or_not}
use Rattle.amr_labels.proofs.matcher.comparison.keep_equal.Given as goal

abbrev pub invariant-loop-index : goal.invariant-loop-index
invariant-loop-index l = l.candidates ≡ kept_where (equal_or_not l.negated l.own) l.name (take l.index l.label_sets) l.initial.candidates
