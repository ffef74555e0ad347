use Rattle.std.proofs.Common.{fold, ◌≡◌, drop}
use Rattle.amr_labels.specs.Map.{remove}
use Rattle.amr_engine.specs.CachedQuiet.{times_in}
use Rattle.amr_engine.proofs.quiet.remove_all.Given as goal

-- without the groups so far, and then those that are left
abbrev pub invariant-loop-group : goal.invariant-loop-group
invariant-loop-group l = fold remove (times_in l.times) (drop l.group-index l.groups) ≡ fold remove (times_in l.fn.times) l.groups
