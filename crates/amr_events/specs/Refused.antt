-- What a line may be read as if `regex` refuses a pattern in it.
use Rattle.std.specs.Prelude.{◌≡◌, ◌⊎◌, ℕ, List, codes, Option, Some, None, Result, Any}
use Rattle.serde_json.specs.Data.{Data}
use Rattle.serde_json.specs.Find.{get}
use Rattle.amr_labels.specs.Matcher.Matchers.{Matcher}
use Rattle.amr_labels.specs.Matcher.MatcherRefusals.{MayBeRefused}
use Rattle.amr_config.specs.Stated.Config.{Config}
use Rattle.amr_config.specs.Read.Reading.{ConfigIs}
use Rattle.amr_config.specs.declared.read.error.Refusal.{Refusal}
use Rattle.amr_events.specs.Posts.Reasons.{Reason}
use Rattle.amr_events.specs.Actions.Events.{Act, Event}
use Rattle.amr_events.specs.Actions.Events as events
use Rattle.amr_events.specs.Shapes.{moment_under}
use Rattle.amr_events.specs.Lines.{json_of, numbered, reload_of, act_in}
use Rattle.amr_events.specs.declared.posts.posted_silence.PostedSilence.{PostedSilence}
use Rattle.amr_events.specs.declared.version.Version.{Version}

-- there are matchers, and `regex` may refuse one of them
pub record MayLack (stated : Option (List Matcher)) : Type 0 where
  pub matchers : List Matcher
  pub stated_as : stated ≡ Some matchers
  pub refused : Any MayBeRefused matchers

-- the matchers that are read are those of the line, or none if one is refused
abbrev pub MatchersAre : Option (List Matcher) → Option (List Matcher) → Type 0
MatchersAre stated read = (read ≡ stated) ⊎ ((read ≡ None) × MayLack stated)

-- the silence is that of the line, except for its matchers
pub record SilenceIs (stated read : PostedSilence) : Type 0 where
  pub id : read.id ≡ stated.id
  pub new_id : read.new_id ≡ stated.new_id
  pub matchers : MatchersAre stated.matchers read.matchers
  pub starts_at : read.starts_at ≡ stated.starts_at
  pub ends_at : read.ends_at ≡ stated.ends_at

-- the reload has what reading its value gives, with a refusal as its number
abbrev pub ReloadIs : Data → Result Config Reason → Type 0
ReloadIs d reload = (read : Result Config Refusal) × ConfigIs d read × (reload ≡ numbered read)

-- the action that is read is that of the object, except for what `regex` refuses
abbrev pub ActIs : Version → Data → Act → Type 0
ActIs version d (events.Act.Post alerts) = act_in version d ≡ Some (events.Act.Post alerts)
ActIs version d (events.Act.Silence silence) =
    (stated : PostedSilence) × (act_in version d ≡ Some (events.Act.Silence stated)) × SilenceIs stated silence
ActIs version d (events.Act.Expire id) = act_in version d ≡ Some (events.Act.Expire id)
ActIs version d (events.Act.Reload reload) =
    (config : Data) × (get (codes "reload") d ≡ Some config) × (act_in version d ≡ Some (reload_of config)) × ReloadIs config reload
ActIs version d events.Act.Tick = act_in version d ≡ Some events.Act.Tick
ActIs version d (events.Act.Label text) = act_in version d ≡ Some (events.Act.Label text)

-- the event that is read of an object
pub record EventIs (version : Version) (d : Data) (event : Event) : Type 0 where
  pub at : moment_under (codes "at") d ≡ Some event.at
  pub act : ActIs version d event.act

-- The event that is read of a line of this version. It is `event_of_line` of the line, except that
-- a silence has no matchers if `regex` refuses one of its patterns, and that a reload is refused if
-- `regex` refuses a pattern of its configuration.
pub record LineIs (version : Version) (line : List ℕ) (event : Event) : Type 0 where
  pub stated : Data
  pub json : json_of line ≡ Some stated
  pub reads : EventIs version stated event
