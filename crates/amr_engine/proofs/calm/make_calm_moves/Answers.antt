use Rattle.std.proofs.Common.{◌≡◌, ◌<◌, ◌≤◌, ◌+◌, ◌-◌, ◌*◌, ◌/◌, ℕ, Some, None, sym, ap, subst, ◌∙◌, arith}
use Rattle.amr_config.specs.Routing.{group_interval_of}
use Rattle.amr_engine.specs.declared.state.due.Timer.TheVariants as timers
use Rattle.amr_engine.specs.State.Dues.{due_at, next_due}
use Rattle.amr_engine.specs.Moves.{advance, counted_run, plus_moves}
use Rattle.amr_engine.specs.Weight.{first_weight}
use Rattle.amr_engine.proofs.Cascade.{plus_twice, stops}
use Rattle.amr_engine.proofs.Calming.{only_flushes, are_apart, more_flushes, at_once, over_at_once, Weighs, moves_weigh}
use Rattle.amr_engine.proofs.calm.make_calm_moves.Goals.{After-group_interval-interval}
use Rattle.amr_engine.proofs.calm.make_calm_moves.Goals as goal

pub unreachable-requires : goal.unreachable-requires
unreachable-requires c =
    only_flushes c.args.at c.loop-due.store.state c.due.inside.moment c.due.inside.timer c.loop-due.invariant.calm
    (sym (rw c.in-Some.is at c.in_ok-due.ensures.due) ∙ ap (λ due. Some due) (sym c.due.view_is)) c.in_default-timer.not-GroupFlush

-- the flush of the group is next
next_is : (c : After-group_interval-interval) → next_due c.args.at c.loop-due.store.state ≡ Some (due_at c.due.inside.moment (timers.GroupFlush c.in-GroupFlush.group))
next_is c = sym (rw c.in-Some.is at c.in_ok-due.ensures.due) ∙ ap (λ due. Some due) (sym c.due.view_is) ∙ ap (λ timer. Some (due_at c.due.inside.moment timer)) c.in-GroupFlush.is

interval_is : (c : After-group_interval-interval) → c.group_interval-interval.result ≡ group_interval_of c.loop-due.store.state.config c.in-GroupFlush.group.route
interval_is c = c.group_interval-interval.ensures ∙ ap (λ config. group_interval_of config c.in-GroupFlush.group.route) c.config.ensures

apart : (c : After-group_interval-interval) → 0 < c.group_interval-interval.result
apart c = subst (λ n. 0 < n) (sym (interval_is c)) (are_apart c.args.at c.loop-due.store.state c.due.inside.moment c.in-GroupFlush.group c.loop-due.invariant.calm (next_is c))

pub flushes_until-flushes-requires-clause-apart : goal.flushes_until-flushes-requires-clause-apart
flushes_until-flushes-requires-clause-apart c = apart (goal.at.flushes_until-flushes-requires-clause-apart c).After-group_interval-interval

pub last_flush-requires-clause-apart : goal.last_flush-requires-clause-apart
last_flush-requires-clause-apart c = apart (goal.at.last_flush-requires-clause-apart c).After-group_interval-interval

flushes_are : (c : After-group_interval-interval) (flushes : ℕ) → flushes ≡ (c.args.at - c.due.inside.moment) / c.group_interval-interval.result + 1
    → flushes ≡ more_flushes c.args.at c.loop-due.store.state c.due.inside.moment c.in-GroupFlush.group + 1
flushes_are c flushes are = are ∙ ap (λ n. (c.args.at - c.due.inside.moment) / n + 1) (interval_is c)

-- there are more flushes than moves are left
over : (c : After-group_interval-interval) (flushes : ℕ) → flushes ≡ (c.args.at - c.due.inside.moment) / c.group_interval-interval.result + 1 → c.args.left - c.loop-due.made < flushes
    → counted_run (advance c.args.left c.args.at c.args.store.now.state) ≡ None
over c flushes are more =
    c.loop-due.invariant.ok
    ∙ ap (λ r. plus_moves r c.loop-due.made) (over_at_once c.args.at c.loop-due.store.state c.due.inside.moment c.in-GroupFlush.group (c.args.left - c.loop-due.made) c.loop-due.invariant.calm (next_is c)
    (subst (λ n. c.args.left - c.loop-due.made < n) (flushes_are c flushes are) more))

pub returns-then-flushes-left-clause-made : goal.returns-then-flushes-left-clause-made
returns-then-flushes-left-clause-made c =
    sym (over (goal.at.returns-then-flushes-left-clause-made c).After-group_interval-interval c.flushes_until-flushes.result c.flushes_until-flushes.ensures c.if-flushes-left.true)

pub returns-then-flushes-left-clause-grown : goal.returns-then-flushes-left-clause-grown
returns-then-flushes-left-clause-grown c =
    let before = c.args.store.now.state in
    let none = over (goal.at.returns-then-flushes-left-clause-grown c).After-group_interval-interval c.flushes_until-flushes.result c.flushes_until-flushes.ensures c.if-flushes-left.true in
    let weight : c.args.left ≤ first_weight c.args.left c.args.at before = subst (Weighs c.args.at c.args.left before) none (moves_weigh c.args.at c.args.left before) in
    omega (arith, weight, c.loop-due.invariant.grown, c.loop-due.invariant.within)

pub loop-due-preserved : goal.loop-due-preserved
loop-due-preserved c =
    let at = c.args.at in
    let left = c.args.left in
    let made = c.loop-due.made in
    let s = c.loop-due.store.state in
    let t = c.reset_timer.new.store.state in
    let group = c.in-GroupFlush.group in
    let moment = c.due.inside.moment in
    let inv = c.loop-due.invariant in
    let d = (goal.at.loop-due-preserved c).After-group_interval-interval in
    let count = more_flushes at s moment group + 1 in
    let flushes = flushes_are d c.flushes_until-flushes.result c.flushes_until-flushes.ensures in
    let last = c.last_flush.ensures ∙ ap (λ n. moment + (at - moment) / n * n) (interval_is d) in
    let all = at_once at s t moment group c.last_flush.result inv.calm (next_is d) last c.in_ok-reset_timer.ensures.ok in
    let rest = left - (made + c.flushes_until-flushes.result) in
    let split : left - made ≡ count + rest = omega (arith, inv.within, flushes, c.if-flushes-left.false) in
    record {
      within = omega (arith, inv.within, c.if-flushes-left.false);
      ok = inv.ok
          ∙ ap (λ n. plus_moves (counted_run (advance n at s)) made) split
          ∙ ap (λ r. plus_moves r made) (all.counted rest)
          ∙ plus_twice (counted_run (advance rest at t)) count made
          ∙ ap (λ n. plus_moves (counted_run (advance rest at t)) (made + n)) (sym flushes);
      calm = all.calm;
      kept = c.in_ok-reset_timer.ensures.kept ∙ inv.kept;
      grown = omega (arith, inv.grown, flushes, c.in_ok-reset_timer.ensures.grown);
      cache = λ cache holds. all.cache cache (inv.cache cache holds);
    }

pub returns-clause-grown : goal.returns-clause-grown
returns-clause-grown c =
    let at = c.args.at in
    let before = c.args.store.now.state in
    let all = stops c.args.left c.loop-due.made at c.loop-due.store.state before c.loop-due.invariant.ok (rw c.in_default.is at c.in_ok-due.ensures.due) in
    let weight : c.loop-due.made ≤ first_weight c.args.left at before = subst (Weighs at c.args.left before) (sym all) (moves_weigh at c.args.left before) in
    omega (arith, weight, c.loop-due.invariant.grown)
