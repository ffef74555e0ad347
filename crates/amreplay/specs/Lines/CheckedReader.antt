-- When reading ends before the end of the bytes.
use Rattle.std.specs.Prelude.{◌≡◌, ◌⊎◌, ℕ, ◌+◌, ◌≤◌, Bool, true, Result, MatchResult}

-- a reader is called less often than this: reading ends at the call numbered 1,099,511,627,776,
-- which isn't made
abbrev pub most_calls : ℕ
most_calls = 1_099_511_627_775

-- the reader failed, or was called as often as it may be
abbrev pub HasEnded : Bool → ℕ → Type 0
HasEnded failed calls = (failed ≡ true) ⊎ (calls ≡ most_calls)

-- one call is counted, and the reader didn't fail in it; or reading has ended
abbrev pub CountsCall : {E : Type 0} → Result ℕ E → Bool → Bool → ℕ → ℕ → Type 0
CountsCall r failed failed' calls calls' = MatchResult r
    (λ _. (calls' ≡ calls + 1) × (calls' ≤ most_calls) × (failed' ≡ failed))
    (λ _. HasEnded failed' calls')
