use Rattle.amr_rules.proofs.Needs.{due_is_needed}
use Rattle.amr_rules.proofs.laws.due_entries_are_needed.Goals as goal

pub returns : goal.returns
returns c = due_is_needed
