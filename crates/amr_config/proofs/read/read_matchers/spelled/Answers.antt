use Rattle.amr_config.proofs.ReadLemmas.PatternsMet.{stops_refused}
use Rattle.amr_config.proofs.read.read_matchers.spelled.Goals as goal

pub returns-in-Err-BadPattern : goal.returns-in-Err-BadPattern
returns-in-Err-BadPattern c =
    let why = rw c.in-Err-BadPattern.field-0-is at c.in-Err-BadPattern.ensures.refused in
    rw why.1 (stops_refused _ _ why.0 why.2 c.faulty-in-Err-BadPattern.ensures)
