use Rattle.std.proofs.Common.{sym, ◌∙◌, arith}
use Rattle.amr_tables.proofs.Heaping.{after_order}
use Rattle.amr_tables.proofs.Firsts.{least_is, none_is}
use Rattle.amr_tables.proofs.earliest.Earliest.first.Goals as goal

pub returns-then-is_after-clause-some : goal.returns-then-is_after-clause-some
returns-then-is_after-clause-some g c =
    let order = after_order (g.S.Schedule.ranked c.args.schedule.now) in
    let after = sym c.is_after.ensures ∙ c.if-is_after.true in
    least_is (g.S.Schedule.ranked c.args.schedule.now) (g.S.Schedule.moments c.args.schedule.now) c.args.self.now c.requires _
    (grind (arith, c.first-first.ensures, c.requires.first))
    (grind (arith, order.one_way c.front-front.result c.first-first.result after, c.front-front.ensures))
    (grind (arith, order.one_way c.first-first.result c.first-first.result, c.first-first.ensures))

pub returns-else-is_after-clause-some : goal.returns-else-is_after-clause-some
returns-else-is_after-clause-some g c =
    let order = after_order (g.S.Schedule.ranked c.args.schedule.now) in
    least_is (g.S.Schedule.ranked c.args.schedule.now) (g.S.Schedule.moments c.args.schedule.now) c.args.self.now c.requires _
    (grind (arith, c.front-front.ensures, c.requires.front))
    (grind (arith, order.one_way c.front-front.result c.front-front.result, c.front-front.ensures))
    (grind (arith, c.is_after.ensures, c.if-is_after.false, c.first-first.ensures))

pub returns-else-is_after-clause-none : goal.returns-else-is_after-clause-none
returns-else-is_after-clause-none g c =
    let order = after_order (g.S.Schedule.ranked c.args.schedule.now) in
    none_is (g.S.Schedule.ranked c.args.schedule.now) (g.S.Schedule.moments c.args.schedule.now) c.args.self.now c.requires.kept _
    (grind (arith, order.one_way c.front-front.result c.front-front.result, c.front-front.ensures))
    (grind (arith, c.is_after.ensures, c.if-is_after.false, c.first-first.ensures))
