-- The texts of moments: reading is the inverse of spelling.
use Rattle.std.specs.Prelude.{◌≡◌, ℕ, ◌<◌, ◌≤◌, List, Some, pos}
use Rattle.amr_time.specs.Time.{Moment, latest_read, before_year_10000}
use Rattle.amr_time.specs.MomentText.{AreParts, IsMomentText, nanoseconds_of, parts_of, moment_text}
use Rattle.amr_time.specs.MomentRead.{moment_at}

-- a text that is read is spelled like this
abbrev pub ReadIsSpelled : Type 0
ReadIsSpelled = (text : List ℕ) (moment : Moment) → moment_at text ≡ Some moment → IsMomentText text moment

-- a text that is spelled like this is read
abbrev pub SpelledIsRead : Type 0
SpelledIsRead = (text : List ℕ) (moment : Moment) → IsMomentText text moment → moment_at text ≡ Some moment

-- what is written is spelled like this
abbrev pub WrittenIsSpelled : Type 0
WrittenIsSpelled = (moment : Moment) → moment < before_year_10000 → AreParts (parts_of moment) × (pos moment ≡ nanoseconds_of (parts_of moment))

-- what is written is read back
abbrev pub WrittenIsRead : Type 0
WrittenIsRead = (moment : Moment) → moment ≤ latest_read → moment_at (moment_text moment) ≡ Some moment
