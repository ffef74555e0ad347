-- The events of a script, as values.
use Rattle.std.specs.Prelude.{ℕ, Bool, true, false, List, Result}
use Rattle.amr_labels.specs.Map.{Map}
use Rattle.amr_labels.specs.Labels.{Text, text_cmp}
use Rattle.amr_time.specs.Time.{Moment}
use Rattle.amr_config.specs.Stated.Config.{Config}
use Rattle.amr_events.specs.Posts.Reasons.{Reason}
use Rattle.amr_events.specs.declared.posts.posted_alert.PostedAlert.{PostedAlert}
use Rattle.amr_events.specs.declared.posts.posted_silence.PostedSilence.{PostedSilence}

abbrev pub Annotations : Type 0
Annotations = Map text_cmp Text

-- a reload has its configuration, or the reason that refused it; a label only names a moment
pub data Act : Type 0 where
  Post : List PostedAlert → Act
  Silence : PostedSilence → Act
  Expire : ℕ → Act
  Reload : Result Config Reason → Act
  Tick : Act
  Label : Text → Act

pub record Event : Type 0 where
  pub at : Moment
  pub act : Act

-- whether the action only names a moment, and does nothing
abbrev pub is_label : Act → Bool
is_label (Act.Label text) = true
is_label (Act.Post posted) = false
is_label (Act.Silence posted) = false
is_label (Act.Expire id) = false
is_label (Act.Reload config) = false
is_label Act.Tick = false
