-- Notifying each integration, and dropping members.
use Rattle.std.proofs.Common.{[], ◌≡◌, Bool, false, ◌∷◌, Some, length, ◌==◌, if◌then◌else◌, refl, sym, ap, ◌∙◌, arith}
use Rattle.std.specs.List.{fold, list_all}
use Rattle.amr_time.specs.Time.{Moment}
use Rattle.amr_config.specs.Routing.{integrations_of}
use Rattle.amr_rules.specs.Alerts.{is_resolved_at}
use Rattle.amr_config.specs.declared.route_labels.RouteLabels.{RouteLabels}
use Rattle.amr_engine.specs.State.State.{State}
use Rattle.amr_engine.specs.Stages.{taken_away}
use Rattle.amr_engine.specs.Quiet.{with_timer_reset}
use Rattle.amr_engine.specs.Flush.{Members, let_through, firing_of, resolved_of, notify_if_due, notify_receiver, set_timer, mark_if_empty, drop_member, drop_resolved}

-- each integration has its turn if some member isn't muted
pub each_turn : (at : Moment) (group : RouteLabels) (members : Members) (s : State) → (length members == 0) ≡ false
    → fold (notify_if_due at group members) s (integrations_of s.config group.route) ≡ notify_receiver at group members s
each_turn at group members s some = grind arith

abbrev emptied : Moment → RouteLabels → State → State
emptied at group = set_timer group (λ timer. record timer { empty_since = Some at })

abbrev all_resolved : Moment → Members → Bool
all_resolved at = list_all (λ member. is_resolved_at at member.1)

-- a group is empty if all of its members are resolved
marked : (at : Moment) (group : RouteLabels) (members : Members) (s : State)
    → mark_if_empty at group (firing_of at members) s ≡ (if all_resolved at members then emptied at group s else s)
marked at group [] s = refl
marked at group (member ∷ members) s = grind (arith, marked at group members s)

-- what is left of the group if all of its members are resolved, and if some member isn't
pub dropped : (at : Moment) (group : RouteLabels) (members : Members) (s kept : State) (b : Bool) → b ≡ all_resolved at members
    → kept ≡ fold (drop_member group) s (resolved_of at members)
    → (if b then emptied at group kept else kept) ≡ drop_resolved at group members s
unfolding drop_resolved
dropped at group members s kept b test is =
    (λ i. if test i then emptied at group (is i) else is i) ∙ sym (marked at group members (fold (drop_member group) s (resolved_of at members)))

-- the group timer mutes no member
pub through_after : (s t : State) (at : Moment) (group : RouteLabels) (members through : Members) → t ≡ with_timer_reset at group s → through ≡ let_through s at group.route members
    → through ≡ let_through t at group.route members
unfolding taken_away
through_after s t at group members through is all = all ∙ sym (ap (λ (x : State). let_through x at group.route members) is)
