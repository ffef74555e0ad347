use Rattle.std.proofs.Common.{◌&&◌, ◌≡◌, ℕ, ◌≤◌, true}
use Rattle.std.specs.List.{list_all}
use Rattle.amr_engine.specs.Quiet.{is_outside, no_silence_turns}
use Rattle.amr_engine.proofs.quiet_until.silence_turn.Given as goal

-- those so far neither start nor end before the moment that was found
abbrev pub invariant-loop-silence : goal.invariant-loop-silence
invariant-loop-silence l = record {
  within : l.until ≤ l.fn.until;
  still : (end : ℕ) → end ≤ l.until → list_all (λ silence. is_outside l.at end silence.starts_at && is_outside l.at end silence.ends_at) l.silence-iterator ≡ true
      → no_silence_turns l.at end l.fn.store.state.silences ≡ true;
}
