use Rattle.std.proofs.Common.{take}
use Rattle.amr_rules.specs.SilencePeriods.{is_active_in, IsLeastId}
use Rattle.amr_rules.proofs.silence_period.silenced_in.Given as goal

abbrev pub invariant-loop-period : goal.invariant-loop-period
invariant-loop-period l = IsLeastId (is_active_in l.now (take l.period-index l.periods)) l.least
