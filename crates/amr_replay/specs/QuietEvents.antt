-- What is noted of the moves from the state at each position of a cursor.
use Rattle.std.specs.Prelude.{ℕ, Bool, List, [], get_or}
use Rattle.amr_config.specs.Stated.Config.{Config}
use Rattle.amr_events.specs.Actions.Events.{Event}
use Rattle.amr_engine.specs.QuietMoves.{AreQuietMoves}
use Rattle.amr_replay.specs.Session.{state_at}

-- what is noted at each position holds of the moves from the state there
abbrev pub AreNoted : Config → List Event → List (List Bool) → Type 0
AreNoted config script by_cursor = (cursor : ℕ) → AreQuietMoves (get_or by_cursor cursor []) (state_at config script cursor)
