use Rattle.std.proofs.Common.{refl}
use Rattle.amr_events.proofs.script.read_event.Goals as goal

pub returns-in-Err-Faulty : goal.returns-in-Err-Faulty
returns-in-Err-Faulty c = (refl, rw c.in-Err-Faulty.field-0-is at c.in-Err-Faulty.ensures)
