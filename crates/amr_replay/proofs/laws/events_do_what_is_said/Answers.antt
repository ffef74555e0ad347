use Rattle.amr_replay.proofs.Said.{accepted_is_done, refused_is_said, state_is_said, refused_is_left, labels_change_nothing}
use Rattle.amr_replay.proofs.laws.events_do_what_is_said.Goals as goal

pub returns-clause-accepted : goal.returns-clause-accepted
returns-clause-accepted c = accepted_is_done

pub returns-clause-refused : goal.returns-clause-refused
returns-clause-refused c = refused_is_said

pub returns-clause-state : goal.returns-clause-state
returns-clause-state c = state_is_said

pub returns-clause-left : goal.returns-clause-left
returns-clause-left c = refused_is_left

pub returns-clause-label : goal.returns-clause-label
returns-clause-label c = labels_change_nothing
