-- Moves leave the alerts placed.
use Rattle.std.proofs.Common.{◌≡◌, ◌≤◌, Some, refl, arith}
use Rattle.amr_labels.specs.Map.{get, remove}
use Rattle.amr_labels.specs.Labels.{LabelSet, label_set_cmp_total, label_set_cmp-IsAntisymmetric}
use Rattle.amr_time.specs.Time.{Moment}
use Rattle.amr_engine.specs.declared.state.notification.GroupTimer.{GroupTimer}
use Rattle.amr_engine.specs.declared.state.due.Kind.{Kind}
use Rattle.amr_engine.specs.declared.state.due.Kind.TheVariants.{AlertRemoval, GroupRemoval, GroupFlush}
use Rattle.amr_config.specs.declared.route_labels.RouteLabels.{RouteLabels}
use Rattle.amr_config.specs.RouteLabels.{on_route, route_labels_cmp_total, route_labels_cmp-IsAntisymmetric}
use Rattle.amr_engine.specs.State.State.{State, group_key}
use Rattle.amr_engine.specs.State.Dues.{Due, dues}
use Rattle.amr_engine.specs.Moves.{move, move_of_kind}
use Rattle.amr_engine.specs.Said.{IsIn}
use Rattle.amr_engine.specs.Placed.{IsTimed, IsPlaced}
use Rattle.amr_engine.proofs.PlacedLists.{get-remove_apart, get-before_remove}
use Rattle.amr_engine.proofs.PlacedPosts.{key_or_apart}
use Rattle.amr_engine.proofs.PlacedFlush.{flush_placed}
use Rattle.amr_engine.proofs.Lasting.{due_holds}

-- ---- the removal of an alert

module _ (at : Moment) (s : State) (labels : LabelSet) where
  alert_removed : IsPlaced at s → IsPlaced at (record s { alerts = remove s.alerts labels })
  alert_removed placed = grind (arith, get-before_remove label_set_cmp_total label_set_cmp-IsAntisymmetric s.alerts labels)

-- ---- the removal of a group

-- the timer of the group has been empty since some moment
record IsEmptied (s : State) (group : RouteLabels) : Type 0 where
  pub timer : GroupTimer
  pub known : get s.timers group ≡ Some timer
  pub since : Moment
  pub emptied : timer.empty_since ≡ Some since

not_both : (s : State) (group : RouteLabels) → IsTimed s group → IsEmptied s group → ⊥
not_both s group timed emptied = grind arith

module _ (at : Moment) (s : State) (group : RouteLabels) where
  abbrev without_group : State
  without_group = record s { timers = remove s.timers group }

  others_timed : (other : RouteLabels) → IsEmptied s group → IsTimed s other → IsTimed without_group other
  others_timed other emptied timed = grind (arith, key_or_apart other group, not_both s group, get-remove_apart route_labels_cmp_total route_labels_cmp-IsAntisymmetric s.timers group other)

  group_removed : IsEmptied s group → IsPlaced at s → IsPlaced at without_group
  group_removed emptied placed = grind (arith, λ (member : RouteLabels). others_timed (group_key s.config member) emptied)

-- a group whose removal is due is empty
removal_emptied : (s : State) (due : Due) → due.kind ≡ GroupRemoval → IsIn due (dues s) → IsEmptied s (on_route due.route due.labels)
unfolding dues
removal_emptied s due kind among =
    due_holds s.alerts s.timers (λ d. d.kind ≡ GroupRemoval → IsEmptied s (on_route d.route d.labels)) (λ _ _ _ no. absurd (cc no))
    (λ group timer since timed empty _. record { timer = timer; known = timed; since = since; emptied = empty }) (λ _ _ _ no. absurd (cc no)) due among kind

-- a move that is due by the moment leaves the alerts placed
pub move_placed : (at : Moment) (s : State) (due : Due) → IsIn due (dues s) → due.moment ≤ at → IsPlaced at s → IsPlaced at (move due s)
unfolding move
move_placed at s due among order placed = by due.kind refl
  where
    by : (kind : Kind) → due.kind ≡ kind → IsPlaced at (move_of_kind kind due s)
    by AlertRemoval is = alert_removed at s due.labels placed
    by GroupRemoval is = group_removed at s (on_route due.route due.labels) (removal_emptied s due is among) placed
    by GroupFlush is = flush_placed at due.moment (on_route due.route due.labels) s order placed
