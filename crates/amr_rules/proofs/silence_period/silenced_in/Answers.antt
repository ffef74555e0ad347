use Rattle.std.proofs.Common.{List, subst}
use Rattle.std.proofs.lemmas.List.{take_all}
use Rattle.amr_rules.specs.declared.silence_period.SilencePeriod.{SilencePeriod}
use Rattle.amr_rules.specs.SilencePeriods.{is_active_in, IsLeastId}
use Rattle.amr_rules.proofs.SilencePeriods.{one_least, silencer_in}
use Rattle.amr_rules.proofs.silence_period.silenced_in.Goals as goal

pub returns-clause-least : goal.returns-clause-least
returns-clause-least c = subst (λ (ps : List SilencePeriod). IsLeastId (is_active_in c.args.now ps) c.loop-period.least) (take_all _ _ c.loop-period-test.false) c.loop-period.invariant

pub returns-clause-silencer : goal.returns-clause-silencer
returns-clause-silencer c = λ from labels silences le listed.
    one_least _ _ _ (returns-clause-least c) (silencer_in c.args.now from labels silences c.args.periods.now le listed)
