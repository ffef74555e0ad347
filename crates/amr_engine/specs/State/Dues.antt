-- Pending timers: when alerts and groups are removed and groups flushed, and which timer is first.
use Rattle.std.specs.Prelude.{◌≡◌, ℕ, zero, suc, List, [], ◌∷◌, ◌++◌, Option, Some, None, if◌then◌else◌, nat_le, ◌-◌, ◌*◌, map, option_map, max}
use Rattle.std.specs.List.{filter_map}
use Rattle.std.specs.declared.cmp.Ordering.{Ordering}
use Rattle.std.specs.Ordering.{nat_cmp, ordering_then, is_gt}
use Rattle.std.specs.Cmp.{IsTotalOrder, nat_cmp_total}
use Rattle.std.specs.FinMap.{IsAntisymmetric}
use Rattle.std.proofs.Common.{refl, sym, ap, ◌∙◌}
use Rattle.std.proofs.lemmas.Cmp.{on_total, then_total}
use Rattle.std.proofs.lemmas.Map.Lookups.{exact_pairs, exact_unsigned}
use Rattle.amr_labels.specs.Map.{Map, entries}
use Rattle.amr_labels.specs.Labels.{LabelSet, label_set_cmp, label_set_cmp_total}
use Rattle.amr_time.specs.Time.{Moment, second, minute, next_multiple_of}
use Rattle.amr_rules.specs.declared.alert.Alert.{Alert}
use Rattle.amr_rules.specs.Muting.{Alerts}
use Rattle.amr_engine.specs.declared.state.notification.GroupTimer.{GroupTimer}
use Rattle.amr_engine.specs.declared.state.due.Kind.{Kind}
use Rattle.amr_engine.specs.declared.state.due.Kind.TheVariants.{AlertRemoval, GroupRemoval, GroupFlush}
use Rattle.amr_engine.specs.declared.state.due.Timer.{Timer}
use Rattle.amr_engine.specs.declared.state.due.Timer.TheVariants as timer
use Rattle.amr_config.specs.declared.route_labels.RouteLabels.{RouteLabels}
use Rattle.amr_config.specs.RouteLabels.{on_route, route_labels_cmp, route_labels_cmp-IsAntisymmetric}
use Rattle.amr_engine.specs.State.State.{State}

-- A pending timer: when it fires, its kind, and the route and labels of the group. For the removal of
-- an alert they are 0 and the labels of the alert.
pub record Due : Type 0 where
  pub moment : Moment
  pub kind : Kind
  pub route : ℕ
  pub labels : LabelSet

abbrev pub kind_of : Timer → Kind
kind_of (timer.AlertRemoval labels) = AlertRemoval
kind_of (timer.GroupRemoval group) = GroupRemoval
kind_of (timer.GroupFlush group) = GroupFlush

abbrev pub group_of : Timer → RouteLabels
group_of (timer.AlertRemoval labels) = on_route 0 labels
group_of (timer.GroupRemoval group) = group
group_of (timer.GroupFlush group) = group

-- the timer with its moment
abbrev pub due_at : Moment → Timer → Due
due_at moment timer = record { moment = moment; kind = kind_of timer; route = (group_of timer).route; labels = (group_of timer).labels }

-- the rank of a kind among the timers of one moment
abbrev pub kind_rank : Kind → ℕ
kind_rank AlertRemoval = 0
kind_rank GroupRemoval = 1
kind_rank GroupFlush = 2

-- timers are ordered by moment, kind, route and labels
abbrev pub due_cmp : Due → Due → Ordering
due_cmp a b =
    ordering_then (nat_cmp a.moment b.moment) (ordering_then (nat_cmp (kind_rank a.kind) (kind_rank b.kind))
    (ordering_then (nat_cmp a.route b.route) (label_set_cmp a.labels b.labels)))

pub due_cmp_total : IsTotalOrder due_cmp
due_cmp_total =
    then_total (on_total (λ (due : Due). due.moment) nat_cmp_total) (then_total (on_total (λ (due : Due). kind_rank due.kind) nat_cmp_total)
    (then_total (on_total (λ (due : Due). due.route) nat_cmp_total) (on_total (λ (due : Due). due.labels) label_set_cmp_total)))

kind_at : ℕ → Kind
kind_at zero = AlertRemoval
kind_at (suc zero) = GroupRemoval
kind_at (suc (suc n)) = GroupFlush

kind_at_its_rank : (kind : Kind) → kind_at (kind_rank kind) ≡ kind
unfolding kind_at
kind_at_its_rank AlertRemoval = refl
kind_at_its_rank GroupRemoval = refl
kind_at_its_rank GroupFlush = refl

abbrev due_parts : Due → Moment × (ℕ × RouteLabels)
due_parts due = (due.moment, (kind_rank due.kind, on_route due.route due.labels))

-- timers that compare equal are the same
pub due_cmp-IsAntisymmetric : IsAntisymmetric due_cmp
due_cmp-IsAntisymmetric a b tie =
    let parts : due_parts a ≡ due_parts b =
    exact_pairs nat_cmp (λ (x y : ℕ × RouteLabels). ordering_then (nat_cmp x.0 y.0) (route_labels_cmp x.1 y.1)) exact_unsigned (exact_pairs nat_cmp route_labels_cmp exact_unsigned route_labels_cmp-IsAntisymmetric)
    (due_parts a) (due_parts b) tie in
    let kinds : a.kind ≡ b.kind =
    sym (kind_at_its_rank a.kind) ∙ ap (λ (x : Moment × (ℕ × RouteLabels)). kind_at x.1.0) parts ∙ kind_at_its_rank b.kind in
    λ i. record { moment = (parts i).0; kind = kinds i; route = (parts i).1.1.route; labels = (parts i).1.1.labels }

-- a stored alert is removed at the first multiple of half an hour that is after its last post and
-- not before its end
abbrev pub alert_removal_at : Alert → Moment
alert_removal_at alert = next_multiple_of (max alert.last_post (alert.ends_at - 1)) (30 * minute)

abbrev pub alert_removal_of : LabelSet × Alert → Due
alert_removal_of alert = record {
  moment = alert_removal_at alert.1;
  kind = AlertRemoval;
  route = 0;
  labels = alert.0;
}

-- an empty group is removed at the first multiple of half a minute after it became empty
abbrev pub group_removal_at : GroupTimer → Option Moment
group_removal_at timer = option_map (λ since. next_multiple_of since (30 * second)) timer.empty_since

abbrev pub group_removal_of : RouteLabels × GroupTimer → Option Due
group_removal_of group =
    option_map (λ since. record { moment = next_multiple_of since (30 * second); kind = GroupRemoval; route = group.0.route; labels = group.0.labels }) group.1.empty_since

-- a group is flushed when its timer says
abbrev pub flush_of : RouteLabels × GroupTimer → Due
flush_of group = record { moment = group.1.next_flush; kind = GroupFlush; route = group.0.route; labels = group.0.labels }

abbrev pub dues_of : Alerts → Map route_labels_cmp GroupTimer → List Due
dues_of alerts timers = map alert_removal_of (entries alerts) ++ filter_map group_removal_of (entries timers) ++ map flush_of (entries timers)

-- all pending timers, at whatever moment
unfoldable pub dues : State → List Due
dues s = dues_of s.alerts s.timers

-- the earlier of a timer and another, if there is another
abbrev pub lesser_due : Due → Option Due → Due
lesser_due due None = due
lesser_due due (Some other) = if is_gt (due_cmp due other) then other else due

-- the first timer of a list
abbrev pub least_due : List Due → Option Due
least_due [] = None
least_due (due ∷ rest) = Some (lesser_due due (least_due rest))

-- the timer, if it is at or before the moment
abbrev pub due_by : Moment → Option Due → Option Due
due_by at None = None
due_by at (Some due) = if nat_le due.moment at then Some due else None

-- the first pending timer at or before the moment
unfoldable pub next_due : Moment → State → Option Due
next_due at s = due_by at (least_due (dues s))
