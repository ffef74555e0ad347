use Rattle.std.proofs.Common.{◌≡◌, take}
use Rattle.amr_labels.specs.Matcher.Searches.{search_pattern}
use Rattle.amr_labels.specs.Matcher.Candidates.{kept_where, found_or_not}
use Rattle.amr_labels.proofs.matcher.pattern.Pattern.ask_each.Given as goal

abbrev pub invariant-loop-index : goal.invariant-loop-index
invariant-loop-index l =
    (search_pattern l.search ≡ search_pattern l.initial.search)
    × l.candidates ≡ kept_where (found_or_not l.negated l.self) l.name (take l.index l.label_sets) l.initial.candidates
