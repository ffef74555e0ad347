use Rattle.std.proofs.Common.{refl}
use Rattle.amr_config.specs.Read.Readings.{next}
use Rattle.amr_config.specs.Read.ReadRules.{rules_at}
use Rattle.amr_config.proofs.ReadLemmas.Readings.{reads_stated}
use Rattle.amr_config.proofs.read.read_rules.read_rules.Goals as goal

pub returns-in-Some : goal.returns-in-Some
unfolding rules_at
returns-in-Some c = rw (← c.in-Some.ensures) (reads_stated _ _ _ c.rules.ensures)

pub returns-in-None : goal.returns-in-None
unfolding rules_at next
returns-in-None c = rw (← c.in-None.ensures, c.new.ensures) refl
