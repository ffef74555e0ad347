use Rattle.std.proofs.Common.{rules, slice_set, subst, ap, arith}
use Rattle.std.proofs.lemmas.Option.{gets}
use Rattle.amr_tables.specs.Numbered.{IsNumbering}
use Rattle.amr_tables.proofs.Numbering.{get-shown, swapped_shown}
use Rattle.amr_tables.proofs.keyed.Keyed.swap_at.Goals as goal

pub returns-clause-former : goal.returns-clause-former
returns-clause-former g c = λ key at. grind (arith, gets, get-shown g.K.Ord.cmp g.met.K.Ord.total c.args.self.now key, at)

pub returns-clause-shown : goal.returns-clause-shown
returns-clause-shown g c = λ key at.
    swapped_shown g.met.K.Ord.total c.args.self.now _ (subst (IsNumbering g.K.Ord.cmp) c.self.view_is c.self.invariant.0) g.met.K.Key.exact (search rules) key c.args.number c.args.value.now at
    (ap (λ t. t.numbers) c.self.view_is) (λ i. slice_set (c.self.view_is i).cells c.args.number (c.swap.ensures.x_after i))
