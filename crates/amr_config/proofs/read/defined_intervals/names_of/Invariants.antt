use Rattle.std.proofs.Common.{◌≡◌, drop, ◌||◌}
use Rattle.std.specs.BTreeSet.{contains}
use Rattle.amr_labels.specs.Labels.{Text, text_cmp}
use Rattle.amr_config.specs.Read.ReadIntervals.{is_taken}
use Rattle.amr_config.proofs.read.defined_intervals.names_of.Given as goal

-- a name is in the set or among the intervals that are left exactly if it is among the intervals
abbrev pub invariant-loop-interval : goal.invariant-loop-interval
invariant-loop-interval l = (name : Text) → (contains text_cmp l.names name || is_taken name (drop l.interval-index l.intervals)) ≡ is_taken name l.intervals
