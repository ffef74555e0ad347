-- The stages of a flush that mute alerts, in their order. A flush notifies of no member that a stage
-- mutes, and `explain` names the first stage that does.
use Rattle.std.specs.Prelude.{ℕ, Option, Some, None, if◌then◌else◌, option_map}
use Rattle.std.specs.Option.{option_or}
use Rattle.amr_labels.specs.Labels.{LabelSet}
use Rattle.amr_time.specs.Time.{Moment}
use Rattle.amr_config.specs.Routing.{is_active_at, is_muted_at}
use Rattle.amr_rules.specs.Muting.{inhibition_from, silencer_of}
use Rattle.amr_engine.specs.State.State.{State}
use Rattle.amr_engine.specs.declared.verdict.Finding.{Finding}
use Rattle.amr_engine.specs.declared.verdict.Finding.TheVariants.{Inhibited, OutsideActive, TimeMuted, Silenced}

-- an inhibition rule mutes the alert
abbrev pub by_inhibition : State → Moment → LabelSet → Option Finding
by_inhibition s at labels = option_map (λ found. Inhibited found.0 found.1) (inhibition_from 0 at labels s.alerts s.config.rules)

-- the route has active time intervals, and the moment is in none of them
abbrev pub by_active_time : State → Moment → ℕ → Option Finding
by_active_time s at route = if is_active_at s.config route at then None else Some OutsideActive

-- the moment is in a mute time interval of the route
abbrev pub by_mute_time : State → Moment → ℕ → Option Finding
by_mute_time s at route = if is_muted_at s.config route at then Some TimeMuted else None

-- a silence mutes the alert
abbrev pub by_silence : State → Moment → LabelSet → Option Finding
by_silence s at labels = option_map Silenced (silencer_of at labels s.silences)

-- the first stage that mutes an alert with these labels on the route
unfoldable pub taken_away : State → Moment → ℕ → LabelSet → Option Finding
taken_away s at route labels =
    option_or (by_inhibition s at labels)
    (option_or (by_active_time s at route)
    (option_or (by_mute_time s at route)
    (by_silence s at labels)))
