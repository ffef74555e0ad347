use Rattle.amr_events.proofs.ReaderSteps.{last_read}
use Rattle.amr_events.proofs.script_reader.ScriptReader.finish.Goals as goal

pub returns : goal.returns
returns c bytes has =
    last_read bytes c.args.self c.add_line.new.self c.new.result has (λ i. record { version = c.new.ensures.version i; events = c.new.ensures.events i }) (rw c.as_slice.ensures.value at c.in_ok-add_line.ensures.added)
