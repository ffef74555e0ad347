-- A line of a script: an object with a moment and one action.
use Rattle.std.specs.Prelude.{ℕ, ◌+◌, ◌==◌, List, Bool, true, false, codes, Option, Some, None, Result, Ok, Err, is_some, if◌then◌else◌}
use Rattle.std.specs.Str.{is_utf8}
use Rattle.serde_json.specs.Data.{Data}
use Rattle.serde_json.specs.Read.{read}
use Rattle.serde_json.specs.Find.{get, as_bool, as_str}
use Rattle.amr_labels.specs.Labels.{Text}
use Rattle.amr_config.specs.Stated.Config.{Config}
use Rattle.amr_config.specs.Read.Refusals.{number_of, cause_of}
use Rattle.amr_config.specs.Read.Reading.{config_of}
use Rattle.amr_config.specs.declared.read.error.Refusal.{Refusal}
use Rattle.amr_events.specs.Posts.Reasons.{Reason}
use Rattle.amr_events.specs.Actions.Events.{Act, Event}
use Rattle.amr_events.specs.Actions.Events as events
use Rattle.amr_events.specs.Shapes.{◌>>=◌, moment_under}
use Rattle.amr_events.specs.Posted.{alerts_of}
use Rattle.amr_events.specs.PostedSilences.{id_at, silence_of}
use Rattle.amr_events.specs.declared.version.Version.{Version}
use Rattle.amr_events.specs.declared.version.Version.TheVariants.{One, Two}

-- the value that a text of JSON spells
unfoldable pub json_of : List ℕ → Option Data
json_of line = if is_utf8 line then read line else None

-- 1 if there is a member, whatever its value
abbrev pub one_if : Option Data → ℕ
one_if stated = if is_some stated then 1 else 0

abbrev pub count_of : Text → Data → ℕ
count_of key d = one_if (get key d)

-- the member under `label`, which is an action only in version 2
abbrev pub label_in : Version → Data → Option Data
label_in One d = None
label_in Two d = get (codes "label") d

-- how many actions the object has
unfoldable pub act_count : Version → Data → ℕ
act_count version d =
    count_of (codes "alerts") d + count_of (codes "silence") d + count_of (codes "expire") d + count_of (codes "reload") d
    + count_of (codes "tick") d + one_if (label_in version d)

-- a post of alerts
unfoldable pub post_of : Data → Option Act
post_of d = do
  alerts ← alerts_of d
  Some (events.Act.Post alerts)

-- a post of a silence
unfoldable pub silencing_of : Data → Data → Option Act
silencing_of line d = do
  silence ← silence_of line d
  Some (events.Act.Silence silence)

-- an expiry of a silence
unfoldable pub expiry_of : Data → Option Act
expiry_of d = do
  id ← id_at d
  Some (events.Act.Expire id)

-- a refusal as its number
abbrev pub numbered : Result Config Refusal → Result Config Reason
numbered (Ok config) = Ok config
numbered (Err refusal) = Err (number_of (cause_of refusal))

-- a reload, with the configuration or the number of what refuses it
abbrev pub reload_of : Data → Act
reload_of d = events.Act.Reload (numbered (config_of d))

abbrev pub tick_if : Bool → Option Act
tick_if true = Some events.Act.Tick
tick_if false = None

-- a tick
unfoldable pub tick_of : Data → Option Act
tick_of d = as_bool d >>= tick_if

-- a label
unfoldable pub labelling_of : Data → Option Act
labelling_of d = do
  text ← as_str d
  Some (events.Act.Label text)

-- the action of a line with these members under `alerts`, `silence`, `expire`, `reload`, `tick` and
-- `label`
abbrev pub act_of_stated : Data → Option Data → Option Data → Option Data → Option Data → Option Data → Option Data → Option Act
act_of_stated line (Some alerts) silence id config tick label = post_of alerts
act_of_stated line None (Some silence) id config tick label = silencing_of line silence
act_of_stated line None None (Some id) config tick label = expiry_of id
act_of_stated line None None None (Some config) tick label = Some (reload_of config)
act_of_stated line None None None None (Some tick) label = tick_of tick
act_of_stated line None None None None None (Some label) = labelling_of label
act_of_stated line None None None None None None = None

-- the action of the object, on a line of this version
unfoldable pub act_in : Version → Data → Option Act
act_in version d =
    if act_count version d == 1
    then act_of_stated d (get (codes "alerts") d) (get (codes "silence") d) (get (codes "expire") d) (get (codes "reload") d) (get (codes "tick") d) (label_in version d)
    else None

unfoldable pub event_in : Version → Data → Option Event
event_in version d = do
  at ← moment_under (codes "at") d
  act ← act_in version d
  Some (record { at = at; act = act })

-- the event of a line of this version, if all patterns are good
unfoldable pub event_of_line : Version → List ℕ → Option Event
event_of_line version line = json_of line >>= event_in version
