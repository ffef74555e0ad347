-- the matchers that are left leave the same candidates as all matchers
use Rattle.std.proofs.Common.{◌≡◌, drop}
use Rattle.amr_labels.specs.Matcher.Candidates.{kept_by_all}
use Rattle.amr_labels.proofs.matcher.candidates.keep_matching.Given as goal

abbrev pub invariant-loop-matcher : goal.invariant-loop-matcher
invariant-loop-matcher l =
    kept_by_all (drop l.matcher-index l.matchers) l.label_sets l.candidates ≡ kept_by_all l.matchers l.label_sets l.initial.candidates
