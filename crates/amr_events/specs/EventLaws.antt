-- The moments of the events that are read.
use Rattle.std.specs.Prelude.{ℕ, ◌≤◌, List, All, IfSome}
use Rattle.amr_time.specs.Time.{Moment, latest_read}
use Rattle.amr_events.specs.Actions.Events.{Act, Event}
use Rattle.amr_events.specs.Actions.Events as events
use Rattle.amr_events.specs.Refused.{LineIs}
use Rattle.amr_events.specs.declared.posts.posted_alert.PostedAlert.{PostedAlert}
use Rattle.amr_events.specs.declared.version.Version.{Version}

-- the moment is one that a text can spell
abbrev pub IsStatable : Moment → Type 0
IsStatable moment = moment ≤ latest_read

pub record AlertIsStatable (alert : PostedAlert) : Type 0 where
  pub starts_at : IfSome alert.starts_at IsStatable
  pub ends_at : IfSome alert.ends_at IsStatable

abbrev pub ActIsStatable : Act → Type 0
ActIsStatable (events.Act.Post alerts) = All AlertIsStatable alerts
ActIsStatable (events.Act.Silence silence) = IsStatable silence.starts_at × IsStatable silence.ends_at
ActIsStatable (events.Act.Expire id) = Unit {0}
ActIsStatable (events.Act.Reload config) = Unit {0}
ActIsStatable events.Act.Tick = Unit {0}
ActIsStatable (events.Act.Label text) = Unit {0}

-- all the moments of the event are
pub record EventIsStatable (event : Event) : Type 0 where
  pub at : IsStatable event.at
  pub act : ActIsStatable event.act

abbrev pub ReadEventsAreStatable : Type 0
ReadEventsAreStatable = (version : Version) (line : List ℕ) (event : Event) → LineIs version line event → EventIsStatable event
