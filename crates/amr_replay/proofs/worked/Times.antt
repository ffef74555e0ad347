-- When notifications come: the wait of a group, old starts, timeouts, given ends, the repeat interval,
-- and as many moves as one event may make.
use Rattle.std.specs.Prelude.{◌≡◌, Bool, true, false, List, [], ◌∷◌, Some, None, Ok, Err, codes, ◌+◌, ◌-◌, ◌*◌, map, length}
use Rattle.std.proofs.Common.{refl}
use Rattle.amr_labels.specs.Map.{entries}
use Rattle.amr_labels.specs.Labels.{Text, LabelSet}
use Rattle.amr_time.specs.Time.{Moment, second, minute, hour}
use Rattle.amr_config.specs.Stated.Config.{Config}
use Rattle.amr_config.specs.declared.route_labels.RouteLabels.{RouteLabels}
use Rattle.amr_events.specs.declared.posts.posted_alert.PostedAlert.{PostedAlert}
use Rattle.amr_events.specs.Actions.Events.{Event}
use Rattle.amr_rules.specs.declared.alert.Alert.{Alert}
use Rattle.amr_engine.specs.declared.state.notification.GroupTimer.{GroupTimer}
use Rattle.amr_engine.specs.State.State.{State}
use Rattle.amr_engine.specs.Events.{on_ok, run_of, do_within, replaying}
use Rattle.amr_replay.proofs.worked.Setting.{ten, root, config_ops, named, x, alert, long, posts, ticks, notified}

-- nothing before the wait of the group is over, and then the notification
abbrev disk_full : List (Text × Text)
disk_full = named (codes "DiskFull")

abbrev early : List Event
early = posts ten (long disk_full ∷ []) ∷ ticks (ten + 29_999_000_000) ∷ []

abbrev pub script : List Event
script = posts ten (long disk_full ∷ []) ∷ ticks (ten + 29_999_000_000) ∷ ticks (ten + 30 * second) ∷ []

pub nothing_is_told_before_the_wait_is_over : (run_of config_ops early).notes ≡ []
unfolding replaying
nothing_is_told_before_the_wait_is_over = refl

pub the_first_page : map notified (run_of config_ops script).notes ≡ (ten + 30 * second, (disk_full ∷ [], [])) ∷ []
unfolding replaying
the_first_page = refl

abbrev dues_of : RouteLabels × GroupTimer → List (Text × Text) × Moment
dues_of group = (entries group.0.labels, group.1.next_flush)

-- P is due after the wait, and Q at once
pub an_old_alert_is_due_at_once : map dues_of (entries (run_of config_ops (posts ten (
    alert (named (codes "P")) (Some (ten - 30 * second)) (Some (ten + 10 * hour))
    ∷ alert (named (codes "Q")) (Some (ten - 31 * second)) (Some (ten + 10 * hour)) ∷ []) ∷ [])).timers)
    ≡ (named (codes "P"), ten + 30 * second) ∷ (named (codes "Q"), ten) ∷ []
unfolding replaying
an_old_alert_is_due_at_once = refl

abbrev times_of : LabelSet × Alert → Moment × (Moment × Bool)
times_of stored = (stored.1.starts_at, (stored.1.ends_at, stored.1.timed_out))

abbrev untimed : PostedAlert
untimed = alert x None None

pub a_post_without_times_ends_by_the_timeout : map times_of (entries (run_of config_ops (posts ten (untimed ∷ []) ∷ posts (ten + 2 * minute) (untimed ∷ []) ∷ [])).alerts)
    ≡ (ten, (ten + 7 * minute, true)) ∷ []
unfolding replaying
a_post_without_times_ends_by_the_timeout = refl

pub a_stated_end_replaces_a_timed_out_one : map times_of (entries (run_of config_ops (posts ten (untimed ∷ []) ∷ posts (ten + 2 * minute) (untimed ∷ [])
    ∷ posts (ten + 3 * minute) (alert x (Some (ten + 3 * minute)) (Some (ten + 4 * minute)) ∷ []) ∷ [])).alerts)
    ≡ (ten, (ten + 4 * minute, false)) ∷ []
unfolding replaying
a_stated_end_replaces_a_timed_out_one = refl

pub a_stated_end_that_is_later_is_kept : map times_of (entries (run_of config_ops (posts ten (alert x (Some ten) (Some (ten + 10 * minute)) ∷ []) ∷ posts (ten + 2 * minute) (untimed ∷ []) ∷ [])).alerts)
    ≡ (ten, (ten + 10 * minute, true)) ∷ []
unfolding replaying
a_stated_end_that_is_later_is_kept = refl

-- the notifications after 49 moves
pub a_page_is_repeated_after_more_than_the_interval : map notified (run_of config_ops (posts ten (long x ∷ []) ∷ ticks (ten + 4 * hour + 5 * minute + 30 * second + second) ∷ [])).notes
    ≡ (ten + 30 * second, (x ∷ [], [])) ∷ (ten + 4 * hour + 5 * minute + 30 * second, (x ∷ [], [])) ∷ []
unfolding replaying
a_page_is_repeated_after_more_than_the_interval = refl

-- an alert that fires for a day, and when it is notified again
abbrev first : Moment
first = ten + 30 * second

abbrev a_day : List Event
a_day = posts ten (alert x (Some ten) (Some (ten + 48 * hour)) ∷ []) ∷ ticks first ∷ ticks (first + 24 * hour) ∷ []

pub six_pages_in_a_day : map (λ notification. notification.at) (run_of config_ops a_day).notes
    ≡ first ∷ (first + 4 * hour + 5 * minute) ∷ (first + 8 * hour + 10 * minute) ∷ (first + 12 * hour + 15 * minute) ∷ (first + 16 * hour + 20 * minute) ∷ (first + 20 * hour + 25 * minute) ∷ []
unfolding replaying
six_pages_in_a_day = refl

-- The limit of moves is three here, so that they can be counted.
abbrev quick : Config
quick = record config_ops { routes = record (root (codes "ops")) { group_interval = Some 1_000_000 } ∷ [] }

abbrev posted : State
posted = run_of quick (posts ten (long x ∷ []) ∷ [])

pub three_moves_are_made : on_ok (λ done. length done.0) (do_within 3 posted (ticks (ten + 30 * second + 2_000_000))) ≡ Ok 3
unfolding replaying
three_moves_are_made = refl

pub one_move_too_many_is_refused : do_within 3 posted (ticks (ten + 30 * second + 3_000_000)) ≡ Err 21
unfolding replaying
one_move_too_many_is_refused = refl
