-- The actions of the code's events, as actions of the definitions.
use Rattle.std.specs.Prelude.{Result, Ok, Err}
use Rattle.amr_time.specs.Time.{Moment}
use Rattle.amr_config.specs.Stated.Config.{Config}
use Rattle.amr_events.specs.Posts.Reasons.{Reason, reason_number}
use Rattle.amr_events.specs.Actions.Events.{Act, Event}
use Rattle.amr_events.specs.Actions.Events as events
use Rattle.amr_events.specs.declared.actions.event.Act as code
use Rattle.amr_events.specs.declared.actions.event.Act.TheVariants.{Post, Silence, Expire, Reload, Tick, Label}
use Rattle.amr_events.specs.declared.actions.event.Event.TheInside.{Inside}
use Rattle.amr_events.specs.declared.posts.reason.Reason as reason

-- a reason as its number
abbrev pub by_number : Result Config reason.Reason → Result Config Reason
by_number (Ok config) = Ok config
by_number (Err reason) = Err (reason_number reason)

abbrev pub act_of : code.Act → Act
act_of (Post posted) = events.Act.Post posted
act_of (Silence silence) = events.Act.Silence silence.value
act_of (Expire id) = events.Act.Expire id
act_of (Reload read) = events.Act.Reload (by_number read)
act_of Tick = events.Act.Tick
act_of (Label text) = events.Act.Label text

abbrev pub event_at : Moment → Act → Event
event_at at act = record { at = at; act = act }

abbrev pub event_of : Inside → Event
event_of event = event_at event.at (act_of event.act)
