use Rattle.std.proofs.Common.{◌≡◌, ◌<◌, ◌≤◌, refl, ap, sym, ◌∙◌, arith, ◌-◌, ◌+◌, ◌*◌, length}
use Rattle.amr_engine.specs.Events.{move_limit}
use Rattle.amr_engine.specs.Moves.{advance, counted_run, plus_moves}
use Rattle.amr_engine.specs.QuietMoves.{after_first_moves}
use Rattle.amr_engine.specs.Weight.{first_weight}
use Rattle.amr_engine.proofs.Growing.{none_spent, spent}
use Rattle.amr_engine.proofs.Cascade.{is_over, goes_on, begins, limit_is, plus_twice}
use Rattle.amr_engine.proofs.Ahead.{moved_on}
use Rattle.amr_engine.proofs.MovesNoted.{known_move, note_move, noted_or_not, one_more}
use Rattle.amr_engine.proofs.moves.advance.Goals as goal

pub loop-due-init : goal.loop-due-init
loop-due-init c = record {
  within = omega arith;
  ok = begins move_limit c.args.at c.args.store.now.state;
  kept = refl;
  grown = none_spent move_limit c.args.at c.args.store.now.state (length c.args.store.now.current);
  cache = c.requires.cache;
  here = refl;
  quiet = c.requires.quiet;
}

-- as many moves as there may be are made, and one more is due
pub returns-then-made-ge-MOST_MOVES-clause-ok : goal.returns-then-made-ge-MOST_MOVES-clause-ok
returns-then-made-ge-MOST_MOVES-clause-ok c =
    let all : move_limit ≤ c.loop-due.made = omega (arith, limit_is, c.if-made-ge-MOST_MOVES.true) in
    is_over move_limit c.loop-due.made c.args.at c.loop-due.store.state c.args.store.now.state c.in-Some.due c.loop-due.invariant.ok all (rw c.in-Some.is at c.in_ok-due.ensures.due)

pub make-requires-clause-quiet : goal.make-requires-clause-quiet
make-requires-clause-quiet c =
    λ is. known_move c.loop-due.quiet_moves c.loop-due.made c.args.store.now.state c.loop-due.store.state c.args.at c.in-Some.due c.loop-due.invariant.here c.loop-due.invariant.quiet
    (rw c.in-Some.is at c.in_ok-due.ensures.due) (sym c.is_quiet.ensures ∙ is)

pub look_ahead-requires-clause-within : goal.look_ahead-requires-clause-within
look_ahead-requires-clause-within c = omega (arith, limit_is, c.if-made-ge-MOST_MOVES.false)

pub returns-in_err-more-clause-quiet : goal.returns-in_err-more-clause-quiet
returns-in_err-more-clause-quiet c =
    note_move c.loop-due.quiet_moves c.note-forgotten.new.self c.loop-due.made c.in_ok-is_quiet.is_quiet c.args.store.now.state c.loop-due.store.state c.args.at c.in-Some.due
    c.loop-due.invariant.here c.loop-due.invariant.quiet (rw c.in-Some.is at c.in_ok-due.ensures.due) c.in_ok-is_quiet.ensures.quiet
    (noted_or_not c.note-forgotten.result _ _ c.note-forgotten.ensures.ok c.note-forgotten.ensures.err)

-- more are due than are left
pub returns-in_default-2-clause-ok : goal.returns-in_default-2-clause-ok
returns-in_default-2-clause-ok c =
    let made = c.loop-due.made in
    let less : made < move_limit = omega (arith, limit_is, c.if-made-ge-MOST_MOVES.false) in
    let next = rw c.in-Some.is at c.in_ok-due.ensures.due in
    let none = rw c.in_default-2.is at c.in_ok-more.ensures.made in
    grind (arith, goes_on move_limit made c.args.at c.loop-due.store.state c.args.store.now.state c.in-Some.due c.loop-due.invariant.ok less next, c.in_ok-is_quiet.ensures.ok, none)

pub returns-in_default-2-clause-grown : goal.returns-in_default-2-clause-grown
returns-in_default-2-clause-grown c =
    let made = c.loop-due.made in
    let less : made < move_limit = omega (arith, limit_is, c.if-made-ge-MOST_MOVES.false) in
    let next = rw c.in-Some.is at c.in_ok-due.ensures.due in
    let moved = c.in_ok-is_quiet.ensures in
    let one = spent move_limit made c.args.at c.loop-due.store.state c.make.new.store.state c.in-Some.due (length c.loop-due.store.current) (length c.make.new.store.current)
    (length c.args.store.now.current + 2 * first_weight move_limit c.args.at c.args.store.now.state) c.loop-due.invariant.grown less next moved.ok moved.grown in
    let none = rw c.in_default-2.is at c.in_ok-more.ensures.grown in
    omega (arith, one, none)

pub returns-in_default-2-clause-quiet : goal.returns-in_default-2-clause-quiet
returns-in_default-2-clause-quiet c =
    note_move c.loop-due.quiet_moves c.note-forgotten.new.self c.loop-due.made c.in_ok-is_quiet.is_quiet c.args.store.now.state c.loop-due.store.state c.args.at c.in-Some.due
    c.loop-due.invariant.here c.loop-due.invariant.quiet (rw c.in-Some.is at c.in_ok-due.ensures.due) c.in_ok-is_quiet.ensures.quiet
    (noted_or_not c.note-forgotten.result _ _ c.note-forgotten.ensures.ok c.note-forgotten.ensures.err)

pub overflow_add-made-in-Some : goal.overflow_add-made-in-Some
overflow_add-made-in-Some c =
    let few = (rw c.in-Some-2.is at c.in_ok-more.ensures.made).0 in
    omega (arith, limit_is, few, c.if-made-ge-MOST_MOVES.false)

pub loop-due-preserved : goal.loop-due-preserved
loop-due-preserved c =
    let made = c.loop-due.made in
    let before = c.args.store.now.state in
    let s = c.loop-due.store.state in
    let moved = c.make.new.store.state in
    let ahead = c.look_ahead.new.store.state in
    let due = c.in-Some.due in
    let more = c.in-Some-2.more in
    let less : made < move_limit = omega (arith, limit_is, c.if-made-ge-MOST_MOVES.false) in
    let next = rw c.in-Some.is at c.in_ok-due.ensures.due in
    let one = c.in_ok-is_quiet.ensures in
    let part = rw c.in-Some-2.is at c.in_ok-more.ensures.made in
    let few = part.0 in
    let left : move_limit - (made + 1) - more ≡ move_limit - (made + 1 + more) = omega arith in
    let here = one_more made before s moved c.args.at due c.loop-due.invariant.here next one.ok in
    let left_weight = ap (λ n. first_weight n c.args.at ahead) left in
    let one_weight = spent move_limit made c.args.at s moved due (length c.loop-due.store.current) (length c.make.new.store.current)
    (length c.args.store.now.current + 2 * first_weight move_limit c.args.at before) c.loop-due.invariant.grown less next one.ok one.grown in
    let more_weight = rw c.in-Some-2.is at c.in_ok-more.ensures.grown in
    record {
      within = omega (arith, limit_is, few, c.if-made-ge-MOST_MOVES.false);
      ok = goes_on move_limit made c.args.at s before due c.loop-due.invariant.ok less next
          ∙ ap (λ x. plus_moves (counted_run (advance (move_limit - (made + 1)) c.args.at x)) (made + 1)) (sym one.ok)
          ∙ ap (λ r. plus_moves r (made + 1)) part.2
          ∙ plus_twice (counted_run (advance (move_limit - (made + 1) - more) c.args.at ahead)) more (made + 1)
          ∙ ap (λ n. plus_moves (counted_run (advance n c.args.at ahead)) (made + 1 + more)) left;
      kept = c.in_ok-more.ensures.kept ∙ one.kept ∙ c.loop-due.invariant.kept;
      grown = omega (arith, left_weight, one_weight, more_weight);
      cache = c.in_ok-more.ensures.cache;
      here = part.1 ∙ ap (after_first_moves more) here ∙ sym (moved_on (made + 1) more before);
      quiet = note_move c.loop-due.quiet_moves c.note-forgotten.new.self made c.in_ok-is_quiet.is_quiet before s c.args.at due
          c.loop-due.invariant.here c.loop-due.invariant.quiet next one.quiet (noted_or_not c.note-forgotten.result _ _ c.note-forgotten.ensures.ok c.note-forgotten.ensures.err);
    }
