-- An action that is prepared before the moves of its event.
use Rattle.std.specs.Prelude.{◌≡◌, ◌≤◌, ℕ, ◌+◌, ◌*◌, List, [], Ok, Err, Result}
use Rattle.std.specs.List.{fold}
use Rattle.amr_labels.specs.Map.{insert}
use Rattle.amr_time.specs.Time.{Moment}
use Rattle.amr_events.specs.Actions.Events.{Act}
use Rattle.amr_events.specs.declared.posts.reason.Reason as code
use Rattle.amr_events.specs.Posts.Reasons.{reason_number}
use Rattle.amr_rules.specs.Silencing.{update_stored}
use Rattle.amr_engine.specs.State.State.{State}
use Rattle.amr_engine.specs.Weight.{reload_entries, alerts_weight, act_weight}
use Rattle.amr_engine.specs.declared.prepare.Prepared as prepare
use Rattle.amr_engine.specs.declared.prepare.Prepared.TheVariants.{Put, Silence, Expire, Reload, Tick}
use Rattle.amr_engine.specs.Events.{after_act, at_moment, put, valid_alerts, with_silences, with_config, skipped_of}

-- the state after a prepared action
abbrev pub after_prepared : prepare.Prepared → State → State
after_prepared (Put posted) s = fold put s (valid_alerts s posted.now)
after_prepared (Silence id new_id silence_update) s = with_silences s (update_stored id new_id silence_update s.silences)
after_prepared (Expire id ended) s = with_silences s (insert s.silences id ended)
after_prepared (Reload config) s = with_config s config
after_prepared Tick s = s

-- the positions of the alerts that a prepared action skips
abbrev pub skipped_by : prepare.Prepared → State → List ℕ
skipped_by (Put posted) s = skipped_of s (Act.Post posted.now)
skipped_by (Silence id new_id silence_update) s = []
skipped_by (Expire id ended) s = []
skipped_by (Reload config) s = []
skipped_by Tick s = []

-- how many entries a prepared action adds to the open record at most, given the states before and
-- after it
abbrev pub entries_of : prepare.Prepared → State → State → ℕ
entries_of (Put posted) before after = alerts_weight before.config (valid_alerts before posted.now)
entries_of (Silence id new_id silence_update) before after = 2
entries_of (Expire id ended) before after = 1
entries_of (Reload config) before after = reload_entries after
entries_of Tick before after = 0

-- what the moves of an event leave as it is, with the clock at the event
pub record Stays (s : State) (at : Moment) (next : State) : Type 0 where
  pub silences : next.silences ≡ s.silences
  pub config : next.config ≡ s.config
  pub moment : next.moment ≡ at

-- on each state that the moves may leave, the action does what was prepared
pub record DoesAsPrepared (s : State) (at : Moment) (act : Act) (prepared : prepare.Prepared) : Type 0 where
  pub does : (next : State) → Stays s at next → after_act next act ≡ Ok (after_prepared prepared next)
  pub skips : (next : State) → Stays s at next → skipped_by prepared next ≡ skipped_of (at_moment at s) act
  pub light : (next after : State) → Stays s at next → entries_of prepared next after ≤ 1 + 2 * act_weight next after act

-- what an action is prepared as, or its own reason against it
abbrev pub IsPrepared : State → Moment → Act → Result prepare.Prepared code.Reason → Type 0
IsPrepared s at act (Ok prepared) = DoesAsPrepared s at act prepared
IsPrepared s at act (Err reason) = after_act (at_moment at s) act ≡ Err (reason_number reason)
