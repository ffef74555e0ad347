-- The times of a posted alert.
use Rattle.std.specs.Prelude.{ℕ, nat_eq, Option, Some, None, if◌then◌else◌}
use Rattle.amr_time.specs.Time.{Moment}

-- the time that a number stands for: the greatest of 96 bits for none, and another for itself
abbrev pub posted_time : ℕ → Option Moment
posted_time n = if nat_eq n 79228162514264337593543950335 then None else Some n
