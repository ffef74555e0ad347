use Rattle.std.proofs.Common.{arith}
use Rattle.amr_tables.proofs.Counting.{push_is}
use Rattle.amr_tables.proofs.numbers.Numbers.insert.Goals as goal

pub returns : goal.returns
returns g c = grind (arith, push_is g.met.K.Ord.total g.K.PartialEq.eq g.met.K.Ord.matches_eq g.met.K.Key.exact c.args.key c.self.inside.keys.keys c.self.invariant)
