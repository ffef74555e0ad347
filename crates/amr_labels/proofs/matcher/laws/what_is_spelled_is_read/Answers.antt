use Rattle.amr_labels.proofs.MatcherLemmas.MatcherSpelled.{spelled_is_read}
use Rattle.amr_labels.proofs.matcher.laws.what_is_spelled_is_read.Goals as goal

pub returns : goal.returns
returns c = spelled_is_read
