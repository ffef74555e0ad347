use Rattle.amr_replay.proofs.Said.{next_is_least, none_is_later}
use Rattle.amr_replay.proofs.laws.next_is_the_least_due.Goals as goal

pub returns-clause-next : goal.returns-clause-next
returns-clause-next c = next_is_least

pub returns-clause-none : goal.returns-clause-none
returns-clause-none c = none_is_later
