use Rattle.std.proofs.Common.{◌≡◌, take}
use Rattle.amr_rules.specs.SilencePeriods.{added_where}
use Rattle.amr_rules.proofs.silence_lists.add_where.Given as goal

abbrev pub invariant-loop-index : goal.invariant-loop-index
invariant-loop-index l = l.each ≡ added_where l.period (take l.index l.matches) l.initial.each
