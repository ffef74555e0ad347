-- What a command leaves: the cursor, and what is printed.
use Rattle.std.specs.Prelude.{ℕ, ◌+◌, ◌-◌, ◌<◌, ◌≤◌, nat_lt, nat_le, List, [], ◌∷◌, ◌++◌, length, drop, if◌then◌else◌, ⊤}
use Rattle.std.specs.List.{flat_map, sum_by}
use Rattle.amr_labels.specs.Map.{entries}
use Rattle.amr_labels.specs.Labels.{Text}
use Rattle.amr_config.specs.Stated.Config.{Config}
use Rattle.amr_events.specs.Actions.Events.{Event}
use Rattle.amr_events.specs.declared.version.Version.{Version}
use Rattle.amr_engine.specs.State.State.{State}
use Rattle.amr_engine.specs.Events.{Outcome, Accepted, Refused, outcome_of}
use Rattle.amr_engine.specs.State.Seen.{groups_of}
use Rattle.amr_engine.specs.Explain.{verdicts}
use Rattle.amr_replay.specs.Session.{View, state_at, outcomes_passed, events_until}
use Rattle.amreplay.specs.declared.lines.word.Word.{Word}
use Rattle.amreplay.specs.declared.lines.word.Word.TheVariants as word
use Rattle.amreplay.specs.Lines.Printed.{event_lines, notification_line, alert_line, silence_line, group_line, log_line}
use Rattle.amreplay.specs.Lines.Verdicts.{verdict_line}
use Rattle.amreplay.specs.Lines.LastLines.{moves_line, cursor_line, position_line, refused_line}
use Rattle.amreplay.specs.CommandLines.Command.{word_of_query}
use Rattle.amreplay.specs.declared.command_lines.command.Move.TheVariants.{Step, Back, Seek, SeekTime}
use Rattle.amreplay.specs.declared.command_lines.command.Query.{Query}
use Rattle.amreplay.specs.declared.command_lines.command.Query.TheVariants.{Explain, Alerts, Silences, Groups, Log, Transcript}
use Rattle.amreplay.specs.declared.command_lines.command.Command.{Command}
use Rattle.amreplay.specs.declared.command_lines.command.Command.TheVariants as command
use Rattle.amreplay.specs.declared.command_lines.command.ParsedLine.{ParsedLine}
use Rattle.amreplay.specs.declared.command_lines.command.ParsedLine.TheVariants.{Nothing, Asks, Malformed, BadMoment, BadArgument, NoMemory}
use Rattle.amreplay.specs.declared.commands.answer.Refusal.TheVariants as refusal
use Rattle.amreplay.specs.Commands.Refusals.{refusal_number}

-- a configuration, and a script by its version and its events
pub record Incident : Type 0 where
  pub config : Config
  pub version : Version
  pub events : List Event

abbrev pub incident_of : View → Incident
incident_of session = record { config = session.config; version = session.version; events = session.events }

-- the state after the first n events
abbrev pub state_in : Incident → ℕ → State
state_in incident n = state_at incident.config incident.events n

pub record Reply : Type 0 where
  pub cursor : ℕ
  pub text : Text

abbrev pub refusal_reply : ℕ → Word → ℕ → Reply
refusal_reply cursor word reason = record { cursor = cursor; text = refused_line word cursor reason }

-- the lines of events, which had these outcomes; the first has the number n
abbrev pub numbered_lines : ℕ → List Event → List Outcome → Text
numbered_lines n [] outcomes = []
numbered_lines n (event ∷ events) [] = []
numbered_lines n (event ∷ events) (outcome ∷ outcomes) = event_lines n event outcome ++ numbered_lines (n + 1) events outcomes

-- the moves of an event; a refused one has none
abbrev pub moves_in : Outcome → ℕ
moves_in (Accepted moves notes skipped) = moves
moves_in (Refused reason) = 0

-- the text of passing events from the cursor to a position, with these outcomes
abbrev pub passing_text : List Event → ℕ → Word → ℕ → List Outcome → Text
passing_text events cursor word to outcomes =
    numbered_lines (cursor + 1) (drop cursor events) outcomes ++ moves_line word to (sum_by moves_in outcomes)

-- a move to another position: the lines of the events that are passed forward, and the sum of their
-- moves
unfoldable pub reply_to_move : Incident → ℕ → Word → ℕ → Reply
reply_to_move incident cursor word to = record {
  cursor = to;
  text = passing_text incident.events cursor word to (outcomes_passed incident.config incident.events cursor to);
}

-- the lines that a query lists, of a state
abbrev pub lines_of : Query → State → Text
lines_of (Explain labels) s = flat_map verdict_line (verdicts s labels)
lines_of Alerts s = flat_map alert_line (entries s.alerts)
lines_of Silences s = flat_map silence_line (entries s.silences)
lines_of Groups s = flat_map group_line (groups_of s)
lines_of Log s = flat_map log_line (entries s.log)
lines_of Transcript s = flat_map notification_line s.notes

-- those lines and a last one
abbrev pub listing_text : ℕ → Query → State → Text
listing_text cursor query s = lines_of query s ++ cursor_line (word_of_query query) cursor

-- an event that is tried has the number 0
abbrev pub tried_lines : ℕ → Event → Outcome → Text
tried_lines cursor event outcome = event_lines 0 event outcome ++ moves_line word.Trial cursor (moves_in outcome)

-- what a command leaves if memory doesn't run out
unfoldable pub reply_to : Incident → ℕ → Command → Reply
reply_to incident n (command.Move Step) = if nat_lt n (length incident.events) then reply_to_move incident n word.Step (n + 1) else refusal_reply n word.Step (refusal_number refusal.AtEnd)
reply_to incident n (command.Move Back) = if nat_lt 0 n then record { cursor = n - 1; text = cursor_line word.Back (n - 1) } else refusal_reply n word.Back (refusal_number refusal.AtStart)
reply_to incident n (command.Move (Seek to)) = if nat_le to (length incident.events) then reply_to_move incident n word.Seek to else refusal_reply n word.Seek (refusal_number refusal.OutOfRange)
reply_to incident n (command.Move (SeekTime at)) = reply_to_move incident n word.SeekTime (events_until at incident.events)
reply_to incident n (command.Trial event) = record { cursor = n; text = tried_lines n event (outcome_of (state_in incident n) event) }
reply_to incident n (command.Query query) = record { cursor = n; text = listing_text n query (state_in incident n) }
reply_to incident n command.Cursor = record { cursor = n; text = position_line n (length incident.events) (state_in incident n).moment }

-- the command takes memory there, so memory may run out
abbrev pub TakesMemory : Incident → ℕ → Command → Type 0
TakesMemory incident n (command.Move Step) = n < length incident.events
TakesMemory incident n (command.Move Back) = ⊥
TakesMemory incident n (command.Move (Seek to)) = (n < to) × (to ≤ length incident.events)
TakesMemory incident n (command.Move (SeekTime at)) = n < events_until at incident.events
TakesMemory incident n (command.Trial event) = ⊤
TakesMemory incident n (command.Query query) = ⊤
TakesMemory incident n command.Cursor = ⊥

-- what a line leaves that was parsed as this
abbrev pub reply_of : Incident → ℕ → ParsedLine → Reply
reply_of incident n Nothing = record { cursor = n; text = [] }
reply_of incident n (Asks command) = reply_to incident n command
reply_of incident n (Malformed word) = refusal_reply n word (refusal_number refusal.BadLine)
reply_of incident n BadMoment = refusal_reply n word.SeekTime (refusal_number refusal.BadTime)
reply_of incident n (BadArgument word) = refusal_reply n word (refusal_number refusal.BadLine)
reply_of incident n (NoMemory word) = refusal_reply n word (refusal_number refusal.Memory)

-- parsing it takes memory, or executing it
abbrev pub MayFindNoMemory : Incident → ℕ → ParsedLine → Type 0
MayFindNoMemory incident n Nothing = ⊥
MayFindNoMemory incident n (Asks command) = TakesMemory incident n command
MayFindNoMemory incident n (Malformed word) = ⊥
MayFindNoMemory incident n BadMoment = ⊥
MayFindNoMemory incident n (BadArgument word) = ⊤
MayFindNoMemory incident n (NoMemory word) = ⊥
