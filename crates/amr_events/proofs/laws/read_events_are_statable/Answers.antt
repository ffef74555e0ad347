use Rattle.amr_events.proofs.EventReading.{read_events_are_statable}
use Rattle.amr_events.proofs.laws.read_events_are_statable.Goals as goal

pub returns : goal.returns
returns c = read_events_are_statable
