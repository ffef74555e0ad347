use Rattle.std.proofs.Common.{rules}
use Rattle.amr_config.proofs.Inherited.{path_of_past}
use Rattle.amr_config.proofs.config.Config.path.Goals as goal

pub returns-in_ok-none-in-None : goal.returns-in_ok-none-in-None
returns-in_ok-none-in-None c =
    let e = path_of_past c.args.self.now c.args.route c.in-None.ensures.found in
    rw e (search rules)
