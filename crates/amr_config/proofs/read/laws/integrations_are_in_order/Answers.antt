use Rattle.amr_config.proofs.ReadLemmas.Integrations.{walked_in_order}
use Rattle.amr_config.proofs.read.laws.integrations_are_in_order.Goals as goal

pub returns : goal.returns
returns c = walked_in_order
