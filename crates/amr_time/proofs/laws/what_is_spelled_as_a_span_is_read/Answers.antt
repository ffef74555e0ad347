use Rattle.amr_time.proofs.SpanTexts.{spelled_span_is_read}
use Rattle.amr_time.proofs.laws.what_is_spelled_as_a_span_is_read.Goals as goal

pub returns : goal.returns
returns c = spelled_span_is_read
