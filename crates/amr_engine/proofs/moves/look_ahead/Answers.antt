use Rattle.std.proofs.Common.{◌≤◌, ◌+◌, ◌-◌, ◌*◌, refl, sym, ap, subst, ◌∙◌, length, arith}
use Rattle.amr_engine.specs.Moves.{advance, counted_run}
use Rattle.amr_engine.specs.Weight.{first_weight}
use Rattle.amr_engine.specs.Calm.{IsPartMade, weight_left}
use Rattle.amr_engine.proofs.Cascade.{limit_is}
use Rattle.amr_engine.proofs.moves.look_ahead.Goals as goal

pub overflow_sub-left : goal.overflow_sub-left
overflow_sub-left c = omega (arith, limit_is, c.requires.within)

pub is_one_beyond-requires : goal.is_one_beyond-requires
is_one_beyond-requires c = omega (arith, limit_is)

pub returns-then-branch : goal.returns-then-branch
returns-then-branch c = record {
  made = ap (λ n. counted_run (advance (n - c.args.made) c.args.at c.args.store.now.state)) limit_is ∙ ap counted_run (c.in_ok-is_one_beyond.ensures c.if-branch.true);
  kept = refl;
  grown = omega arith;
  cache = c.requires.cache;
}

pub returns-clause-made : goal.returns-clause-made
returns-clause-made c =
    subst (λ n. IsPartMade (n - c.args.made) c.args.at c.args.store.now.state c.make_at_once.new.store.state c.in_ok-more.more) (sym limit_is) c.in_ok-more.ensures.made

pub returns-clause-grown : goal.returns-clause-grown
returns-clause-grown c =
    let s = c.args.store.now in
    let t = c.make_at_once.new.store in
    subst (λ n. length t.current + 2 * weight_left (n - c.args.made) c.args.at t.state c.in_ok-more.more ≤ length s.current + 2 * first_weight (n - c.args.made) c.args.at s.state) (sym limit_is) c.in_ok-more.ensures.grown
