use Rattle.std.proofs.Common.{arith}
use Rattle.amr_tables.proofs.Keying.{key_with-numbered}
use Rattle.amr_tables.proofs.numbers.Numbers.key_at.Goals as goal

pub returns : goal.returns
returns g c = grind (arith, key_with-numbered g.K.Ord.cmp g.met.K.Ord.total g.K.PartialEq.eq g.met.K.Ord.matches_eq c.args.number c.self.inside.keys.keys c.self.invariant)
