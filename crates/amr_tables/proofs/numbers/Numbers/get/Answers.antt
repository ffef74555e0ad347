use Rattle.std.proofs.Common.{arith}
use Rattle.amr_tables.proofs.Counting.{index_is}
use Rattle.amr_tables.proofs.numbers.Numbers.get.Goals as goal

pub returns : goal.returns
returns g c = grind (arith, index_is g.met.K.Ord.total g.K.PartialEq.eq g.met.K.Ord.matches_eq c.args.key.now c.self.inside.keys.keys)
