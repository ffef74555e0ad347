use Rattle.std.proofs.Common.{◌≡◌, ◌≤◌, ◌+◌, ◌*◌, ◌-◌, length}
use Rattle.amr_engine.specs.Events.{move_limit}
use Rattle.amr_engine.specs.Moves.{advance, counted_run, plus_moves}
use Rattle.amr_engine.specs.CachedQuiet.{IsTrueOf}
use Rattle.amr_engine.specs.QuietMoves.{after_first_moves, AreQuietMoves}
use Rattle.amr_engine.specs.State.Kept.{before_open_record}
use Rattle.amr_engine.specs.Weight.{first_weight}
use Rattle.amr_engine.proofs.moves.advance.Given as goal

-- the moves made so far and those that are left are all
abbrev pub invariant-loop-due : goal.invariant-loop-due
invariant-loop-due l = record {
  within : l.made ≤ 1_000_000;
  ok : counted_run (advance move_limit l.at l.fn.store.state) ≡ plus_moves (counted_run (advance (move_limit - l.made) l.at l.store.state)) l.made;
  kept : before_open_record l.store ≡ before_open_record l.fn.store;
  grown : length l.store.current + 2 * first_weight (move_limit - l.made) l.at l.store.state ≤ length l.fn.store.current + 2 * first_weight move_limit l.at l.fn.store.state;
  cache : IsTrueOf l.quiet_groups l.store.state;
  here : l.store.state ≡ after_first_moves l.made l.fn.store.state;
  quiet : AreQuietMoves l.quiet_moves l.fn.store.state;
}

abbrev pub decreases-loop-due : goal.decreases-loop-due
decreases-loop-due l = 1_000_000 - l.made
