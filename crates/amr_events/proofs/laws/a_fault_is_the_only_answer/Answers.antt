use Rattle.amr_events.proofs.ScriptReading.{a_fault_is_the_only_answer}
use Rattle.amr_events.proofs.laws.a_fault_is_the_only_answer.Goals as goal

pub returns : goal.returns
returns c = a_fault_is_the_only_answer
