use Rattle.std.proofs.Common.{◌≡◌, ◌≤◌, ◌+◌, ◌-◌, length}
use Rattle.amr_engine.specs.CachedQuiet.{IsTrueOf}
use Rattle.amr_engine.specs.declared.quiet.QuietGroups.{QuietGroups}
use Rattle.amr_engine.specs.Moves.{advance, counted_run, plus_moves}
use Rattle.amr_engine.specs.Calm.{IsCalm}
use Rattle.amr_engine.specs.State.Kept.{before_open_record}
use Rattle.amr_engine.proofs.calm.make_calm_moves.Given as goal

-- the moves made so far and those that are left are all, and no more entries were made than moves
abbrev pub invariant-loop-due : goal.invariant-loop-due
invariant-loop-due l = record {
  within : l.made ≤ l.left;
  ok : counted_run (advance l.left l.at l.fn.store.state) ≡ plus_moves (counted_run (advance (l.left - l.made) l.at l.store.state)) l.made;
  calm : IsCalm l.at l.store.state;
  kept : before_open_record l.store ≡ before_open_record l.fn.store;
  grown : length l.store.current ≤ length l.fn.store.current + l.made;
  cache : (cache : QuietGroups) → IsTrueOf cache l.fn.store.state → IsTrueOf cache l.store.state;
}

abbrev pub decreases-loop-due : goal.decreases-loop-due
decreases-loop-due l = l.left - l.made
