use Rattle.amr_config.proofs.ReadLemmas.Answered.{what_is_read_is_stated}
use Rattle.amr_config.proofs.read.laws.what_is_read_is_stated.Goals as goal

pub returns : goal.returns
returns c = what_is_read_is_stated
