-- The moments of the pending timers of alerts and groups, by number.
use Rattle.std.specs.Prelude.{◌≡◌, ◌<◌, ℕ, false, IsTrue, List, Option, Some, None, option_map, nat_lt, if◌then◌else◌}
use Rattle.std.specs.Option.{option_and_then}
use Rattle.std.specs.declared.cmp.Ordering.{Ordering}
use Rattle.std.specs.Ordering.{is_gt}
use Rattle.amr_labels.specs.Labels.{LabelSet, label_set_cmp}
use Rattle.amr_time.specs.Time.{Moment}
use Rattle.amr_rules.specs.declared.alert.Alert.{Alert}
use Rattle.amr_tables.specs.Places.{value_at}
use Rattle.amr_tables.specs.Numbered.{Numbered, number_of, rank_of, IsNumber, IsNumbering}
use Rattle.amr_tables.specs.Earliest.{Earliest, room, IsHeld, IsOrdered}
use Rattle.amr_tables.specs.Members.{has}
use Rattle.amr_engine.specs.declared.state.notification.GroupTimer.{GroupTimer}
use Rattle.amr_config.specs.declared.route_labels.RouteLabels.{RouteLabels}
use Rattle.amr_engine.specs.declared.state.due.Kind.{Kind}
use Rattle.amr_engine.specs.declared.state.due.Kind.TheVariants.{AlertRemoval, GroupRemoval, GroupFlush}
use Rattle.amr_engine.specs.declared.state.due.Timer.{Timer}
use Rattle.amr_engine.specs.declared.state.due.Timer.TheVariants as timer
use Rattle.amr_engine.specs.declared.state.pending.Pending.{Pending}
use Rattle.amr_engine.specs.declared.state.pending.TimerRef.{TimerRef}
use Rattle.amr_engine.specs.declared.state.pending.TimerRef.TheVariants as ref
use Rattle.amr_config.specs.RouteLabels.{route_labels_cmp}
use Rattle.amr_engine.specs.State.Dues.{Due, due_at, due_cmp, alert_removal_at, group_removal_at}

-- when an alert is removed
abbrev pub alert_moment : Option Alert → Option Moment
alert_moment = option_map alert_removal_at

-- when the group's timer of a kind is due
abbrev pub group_moment : Kind → Option GroupTimer → Option Moment
group_moment AlertRemoval timer = None
group_moment GroupRemoval timer = option_and_then group_removal_at timer
group_moment GroupFlush timer = option_map (λ timer. timer.next_flush) timer

-- the moment of the value at a number
abbrev pub moments_in : {K V : Type 0} → (Option V → Option Moment) → Numbered K V → ℕ → Option Moment
moments_in moment_of t n = moment_of (value_at t.cells n)

module _ {K V : Type 0} (R : K → K → Ordering) where
  -- The moments are those of the values at the numbers, and of several at one moment the keys
  -- decide. None is held of a number that no key has.
  pub record IsScheduled (moment_of : Option V → Option Moment) (t : Numbered K V) (earliest : Earliest) : Type 0 where
    pub named : (n : ℕ) → IsHeld earliest n → IsNumber R t n
    pub room : (key : K) (n : ℕ) → number_of R t key ≡ Some n → n < room earliest
    pub ordered : IsOrdered (rank_of R t) (moments_in moment_of t) earliest

-- the alerts are numbered, and removed at these moments
pub record AreRemoved (alerts : Numbered LabelSet Alert) (removals : Earliest) : Type 0 where
  pub numbering : IsNumbering label_set_cmp alerts
  pub removed : IsScheduled label_set_cmp alert_moment alerts removals

-- the groups are numbered, and removed and flushed at these moments
pub record AreTimed (timers : Numbered RouteLabels GroupTimer) (removals flushes : Earliest) : Type 0 where
  pub numbering : IsNumbering route_labels_cmp timers
  pub removed : IsScheduled route_labels_cmp (group_moment GroupRemoval) timers removals
  pub flushed : IsScheduled route_labels_cmp (group_moment GroupFlush) timers flushes

-- ---- the first timer

-- the timer that references stand for
abbrev pub timer_of : TimerRef → Timer
timer_of (ref.AlertRemoval labels) = timer.AlertRemoval labels.now
timer_of (ref.GroupRemoval group) = timer.GroupRemoval group.now
timer_of (ref.GroupFlush group) = timer.GroupFlush group.now

abbrev pub due_of : Pending → Due
due_of pending = due_at pending.moment (timer_of pending.timer)

-- the earlier of two timers; of two at one moment, the first
abbrev pub earlier : Option Due → Option Due → Option Due
earlier None b = b
earlier (Some a) None = Some a
earlier (Some a) (Some b) = if nat_lt b.moment a.moment then Some b else Some a

-- the timer is one of these kinds in the list, and none of these kinds is before it; without a
-- timer, the list has none of these kinds
abbrev pub IsFirstAmong : (Kind → Type 0) → List Due → Option Due → Type 0
IsFirstAmong kinds dues None = (other : Due) → kinds other.kind → has due_cmp dues other ≡ false
IsFirstAmong kinds dues (Some due) = kinds due.kind × (IsTrue (has due_cmp dues due) × ((other : Due) → kinds other.kind → IsTrue (has due_cmp dues other) → is_gt (due_cmp due other) ≡ false))

abbrev pub IsFirstOfKind : Kind → List Due → Option Due → Type 0
IsFirstOfKind kind = IsFirstAmong (λ other. other ≡ kind)
