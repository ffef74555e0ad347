use Rattle.std.proofs.Common.{sym, arith}
use Rattle.amr_engine.proofs.Ahead.{part_made, part_weighs}
use Rattle.amr_engine.proofs.calm.make_at_once.Goals as goal

pub returns-in_ok-made-in-Some-clause-made : goal.returns-in_ok-made-in-Some-clause-made
returns-in_ok-made-in-Some-clause-made c =
    let calm = rw c.in-Some.is at c.calm_until.ensures in
    part_made c.in-Some.until c.args.at calm.0 c.args.left c.args.store.now.state c.make_calm_moves.new.store.state c.in_ok-made-in-Some.made (sym c.in_ok-made-in-Some.ensures.made)

pub returns-in_ok-made-in-Some-clause-grown : goal.returns-in_ok-made-in-Some-clause-grown
returns-in_ok-made-in-Some-clause-grown c =
    let calm = rw c.in-Some.is at c.calm_until.ensures in
    let weight = part_weighs c.in-Some.until c.args.at calm.0 c.args.left c.args.store.now.state c.make_calm_moves.new.store.state c.in_ok-made-in-Some.made (sym c.in_ok-made-in-Some.ensures.made) in
    omega (arith, weight, c.in_ok-made-in-Some.ensures.grown)
