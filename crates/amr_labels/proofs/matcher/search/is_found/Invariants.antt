use Rattle.std.proofs.Common.{◌≡◌, ◌-◌, ◌≤◌, length}
use Rattle.regex.specs.Patterns.{find_str}
use Rattle.regex_meta.specs.Programs.{pattern_of}
use Rattle.amr_labels.proofs.matcher.search.is_found.Given as goal

abbrev pub invariant-loop-from : goal.invariant-loop-from
invariant-loop-from l =
    (l.at ≤ length l.value)
    × (find_str (pattern_of l.fn.searcher.program.now) l.value 0 ≡ find_str (pattern_of l.fn.searcher.program.now) l.value l.at)
    × (l.searcher.program.now ≡ l.fn.searcher.program.now)

abbrev pub decreases-loop-from : goal.decreases-loop-from
decreases-loop-from l = length l.value - l.at
