-- Outcomes of events, and a configuration that satisfies the rules.
use Rattle.std.specs.Prelude.{◌≡◌, ℕ, zero, suc, true, List, [], ◌∷◌, Option, Some, None, codes, ◌+◌, ◌*◌, map}
use Rattle.std.proofs.Common.{refl, subst, arith}
use Rattle.amr_labels.specs.Labels.{Text}
use Rattle.amr_time.specs.Time.{Moment, second}
use Rattle.amr_config.specs.Read.Shape.{IsConfig, stated_receiver, is_receiver}
use Rattle.amr_events.specs.Actions.Events.{Event}
use Rattle.amr_engine.specs.State.State.{start}
use Rattle.amr_engine.specs.Events.{Outcome, outcome_of, replaying}
use Rattle.amr_replay.specs.Session.{outcomes_passed}
use Rattle.amr_replay.proofs.worked.Setting.{ten, config_ops, named, x, long, posts, ticks}

-- the second alert is skipped
pub invalid_alerts_are_skipped : outcome_of (start config_ops) (posts ten (long x ∷ long (named []) ∷ long (named (codes "Y")) ∷ [])) ≡ Outcome.Accepted 0 [] (2 ∷ [])
unfolding replaying
invalid_alerts_are_skipped = refl

pub a_post_without_a_valid_alert_is_refused : outcome_of (start config_ops) (posts ten (long (named []) ∷ [])) ≡ Outcome.Refused 16
unfolding replaying
a_post_without_a_valid_alert_is_refused = refl

abbrev shown : Outcome → Option (ℕ × (List Moment × List ℕ))
shown (Outcome.Accepted moves notes skipped) = Some (moves, (map (λ notification. notification.at) notes, skipped))
shown (Outcome.Refused reason) = None

abbrev two : List Event
two = posts ten (long x ∷ []) ∷ ticks (ten + 29 * second) ∷ ticks (ten + 30 * second) ∷ ticks ten ∷ []

pub what_each_event_comes_to : map shown (outcomes_passed config_ops two 1 4) ≡ Some (0, ([], [])) ∷ Some (1, ((ten + 30 * second) ∷ [], [])) ∷ None ∷ []
unfolding replaying
what_each_event_comes_to = refl

known : (n : ℕ) (name : Text) → stated_receiver config_ops n ≡ Some name → is_receiver config_ops name ≡ true
known zero name e =
    let same : codes "ops" ≡ name = cc in
    subst (λ (text : Text). is_receiver config_ops text ≡ true) same refl
known (suc n) name e = absurd (cc)

pub config_ops-IsConfig : IsConfig config_ops
config_ops-IsConfig = record {
  root = refl;
  root_receiver = (codes "ops", refl);
  parents = λ n positive within. absurd (omega (arith, positive, within));
  known_receivers = known;
  different_receivers = refl;
  integrations = refl;
}
