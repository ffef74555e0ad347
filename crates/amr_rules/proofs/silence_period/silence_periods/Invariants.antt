use Rattle.std.proofs.Common.{◌≡◌, ◌++◌, drop}
use Rattle.amr_rules.specs.SilencePeriods.{periods_among}
use Rattle.amr_rules.proofs.silence_period.silence_periods.Given as goal

-- those so far and those of what is left are all
abbrev pub invariant-loop-id : goal.invariant-loop-id
invariant-loop-id l = l.periods ++ periods_among l.from l.labels (drop l.id-index l.listed) ≡ periods_among l.from l.labels l.listed
