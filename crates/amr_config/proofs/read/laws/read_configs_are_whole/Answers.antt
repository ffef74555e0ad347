use Rattle.amr_config.proofs.ReadLemmas.WholeConfigs.{read_configs_are_whole}
use Rattle.amr_config.proofs.read.laws.read_configs_are_whole.Goals as goal

pub returns : goal.returns
returns c = read_configs_are_whole
