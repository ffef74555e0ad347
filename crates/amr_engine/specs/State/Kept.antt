-- The state with its journal.
use Rattle.std.specs.Prelude.{ℕ, List, [], length, ◌+◌, ◌≤◌}
use Rattle.amr_engine.specs.declared.state.change.Change.{Change}
use Rattle.amr_engine.specs.State.State.{State}
use Rattle.amr_engine.specs.State.Records.{put_back}

-- The state, the open record, the closed records from the oldest on, and the number of further
-- records that there is room for.
pub record Kept : Type 0 where
  pub state : State
  pub current : List Change
  pub records : List (List Change)
  pub room : ℕ

-- the state with the open record undone
unfoldable pub before_open_record : Kept → Kept
before_open_record kept = record kept { state = put_back kept.current kept.state; current = [] }

-- the open record has at most n more entries
abbrev pub GrownBy : ℕ → Kept → Kept → Type 0
GrownBy n before after = length after.current ≤ length before.current + n
