-- A law of what a session prints.
use Rattle.std.specs.Prelude.{◌≡◌, ℕ, []}
use Rattle.amreplay.specs.Commands.Replies.{Incident, Reply}
use Rattle.amreplay.specs.Commands.Talk.{LineOutcome, MayBe, reply}

-- this doesn't change the session, and prints nothing
abbrev pub nothing_at : ℕ → Reply
nothing_at cursor = record { cursor = cursor; text = [] }

-- an empty line prints nothing, even if memory runs out
abbrev pub EmptyIsSilent : Type 0
EmptyIsSilent = (incident : Incident) (cursor : ℕ) (line_outcome : LineOutcome) → MayBe incident cursor [] line_outcome → reply incident cursor line_outcome ≡ nothing_at cursor
