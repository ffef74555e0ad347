-- What an action does after the moves of its event, from what was prepared before them.
use Rattle.std.proofs.Common.{◌==◌, fold, filter_map, ◌≡◌, true, false, ℕ, List, Bor, None, Some, Ok, Err, length, refl, sym, ap, ◌∙◌, arith}
use Rattle.amr_labels.specs.Map.{get}
use Rattle.amr_labels.specs.Labels.{Text, LabelSet}
use Rattle.amr_time.specs.Time.{Moment, Span}
use Rattle.amr_config.specs.Stated.Config.{Config}
use Rattle.amr_events.specs.declared.posts.posted_alert.PostedAlert.{PostedAlert}
use Rattle.amr_events.specs.declared.posts.posted_silence.PostedSilence.{PostedSilence}
use Rattle.amr_events.specs.Posts.Reasons.{Reason}
use Rattle.amr_events.specs.Actions.Events.{Act}
use Rattle.amr_rules.specs.declared.alert.Alert.{Alert}
use Rattle.amr_rules.specs.declared.silence.Silence.{Silence}
use Rattle.amr_rules.specs.declared.silence_update.SilenceUpdate.{SilenceUpdate}
use Rattle.amr_rules.specs.Alerts.{completed_alert}
use Rattle.amr_rules.specs.Silences.{after_post, after_expiry, expired_form}
use Rattle.amr_rules.specs.Silencing.{with_decision}
use Rattle.amr_engine.specs.State.State.{State}
use Rattle.amr_engine.specs.declared.prepare.Prepared.TheVariants as prepared
use Rattle.amr_engine.specs.Events.{after_act, at_moment, on_ok, put, put_all, valid_alerts, with_silences}
use Rattle.amr_engine.specs.Prepared.{DoesAsPrepared, Stays}
use Rattle.amr_engine.proofs.Listed.{none_left}

abbrev pub Valid : Type 0
Valid = List (LabelSet × Alert)

put_some : (s : State) (v : Valid) → (length v == 0) ≡ false → put_all s v ≡ Ok (fold put s v)
put_some s v h = grind arith

-- no alert of a post is valid
pub no_valid : (s : State) (at : Moment) (timeout : Span) (posted : List PostedAlert) → timeout ≡ s.config.resolve_timeout
    → (length (filter_map (completed_alert at timeout) posted) == 0) ≡ true → after_act (at_moment at s) (Act.Post posted) ≡ Err 16
unfolding after_act
no_valid s at timeout posted same none =
    ap (put_all (at_moment at s)) (ap (λ (t : Span). filter_map (completed_alert at t) posted) (sym same) ∙ none_left (filter_map (completed_alert at timeout) posted) none)

-- the alerts that are valid after the moves are those that are valid before them
same_valid : (s next : State) (at : Moment) (timeout : Span) (posted : List PostedAlert) → Stays s at next → timeout ≡ s.config.resolve_timeout
    → valid_alerts next posted ≡ filter_map (completed_alert at timeout) posted
same_valid s next at timeout posted stays same =
    (λ i. filter_map (completed_alert (stays.moment i) (stays.config i).resolve_timeout) posted) ∙ ap (λ (t : Span). filter_map (completed_alert at t) posted) (sym same)

-- some alert of a post is valid
pub some_valid : (s : State) (at : Moment) (timeout : Span) (posted : Bor (List PostedAlert)) → timeout ≡ s.config.resolve_timeout
    → (length (filter_map (completed_alert at timeout) posted.now) == 0) ≡ false → DoesAsPrepared s at (Act.Post posted.now) (prepared.Put posted)
unfolding after_act
some_valid s at timeout posted same some = grind (arith, λ (next : State). put_some next (valid_alerts next posted.now), λ (next : State). same_valid s next at timeout posted.now)

-- there is a reason against a silence
pub no_silence : (s : State) (at : Moment) (posted : PostedSilence) (reason : Reason) → Err reason ≡ after_post at posted s.silences
    → after_act (at_moment at s) (Act.Silence posted) ≡ Err reason
unfolding after_act
no_silence s at posted reason own = ap (on_ok (with_silences (at_moment at s))) (sym own)

-- a silence is stored
pub some_silence : (s : State) (at : Moment) (posted : PostedSilence) (silence_update : SilenceUpdate) → Ok (with_decision posted silence_update s.silences) ≡ after_post at posted s.silences
    → DoesAsPrepared s at (Act.Silence posted) (prepared.Silence posted.id posted.new_id silence_update)
unfolding after_act
some_silence s at posted silence_update own = grind arith

-- no silence has the id
pub no_expiry : (s : State) (at : Moment) (id : ℕ) → get s.silences id ≡ None → after_act (at_moment at s) (Act.Expire id) ≡ Err 18
unfolding after_act after_expiry
no_expiry s at id missing = grind arith

-- a silence is expired
pub some_expiry : (s : State) (at : Moment) (id : ℕ) (silence ended : Silence) → get s.silences id ≡ Some silence → ended ≡ expired_form at silence
    → DoesAsPrepared s at (Act.Expire id) (prepared.Expire id ended)
unfolding after_act after_expiry
some_expiry s at id silence ended found is = grind arith

-- a configuration was read
pub some_reload : (s : State) (at : Moment) (config loaded : Config) → loaded ≡ config → DoesAsPrepared s at (Act.Reload (Ok config)) (prepared.Reload loaded)
unfolding after_act
some_reload s at config loaded is = grind arith

-- a configuration was refused
pub no_reload : (s : State) (at : Moment) (reason : Reason) → after_act (at_moment at s) (Act.Reload (Err reason)) ≡ Err reason
unfolding after_act
no_reload s at reason = refl

-- time passes
pub some_tick : (s : State) (at : Moment) → DoesAsPrepared s at Act.Tick prepared.Tick
unfolding after_act
some_tick s at = record { does = λ next stays. refl; skips = λ next stays. refl; light = λ next after stays. omega arith }

-- a label does as little
pub some_label : (s : State) (at : Moment) (text : Text) → DoesAsPrepared s at (Act.Label text) prepared.Tick
unfolding after_act
some_label s at text = record { does = λ next stays. refl; skips = λ next stays. refl; light = λ next after stays. omega arith }
