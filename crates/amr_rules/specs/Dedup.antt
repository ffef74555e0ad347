-- The dedup check: when the notification log is due for a new entry, which comes with a
-- notification unless there is nothing to send.
use Rattle.std.specs.Prelude.{◌≡◌, Bool, not, ◌&&◌, ◌||◌, Option, Some, None, is_some, if◌then◌else◌, nat_lt, ◌+◌}
use Rattle.amr_labels.specs.Set.{Set, is_subset, is_empty}
use Rattle.amr_labels.specs.Labels.{label_set_cmp}
use Rattle.amr_time.specs.Time.{Moment, Span}
use Rattle.amr_rules.specs.declared.dedup.LogEntry.{LogEntry}

abbrev pub LabelSets : Type 0
LabelSets = Set label_set_cmp

-- With an entry, a new one is due if something new fires; if nothing fires any more; and
-- otherwise if resolved alerts are sent and something new is resolved, or if the entry's time plus
-- the interval is strictly before now.
abbrev pub differs : LogEntry → LabelSets → LabelSets → Bool → Moment → Span → Bool
differs entry firing resolved send_resolved now repeat_interval =
    not (is_subset firing entry.firing)
    || (is_empty firing && not (is_empty entry.firing))
    || (not (is_empty firing) && ((send_resolved && not (is_subset resolved entry.resolved)) || nat_lt (entry.time + repeat_interval) now))

-- whether a new entry is due, given the last one, if there is one
unfoldable pub needs_update : Option LogEntry → LabelSets → LabelSets → Bool → Moment → Span → Bool
needs_update None firing resolved send_resolved now repeat_interval = not (is_empty firing)
needs_update (Some entry) firing resolved send_resolved now repeat_interval = differs entry firing resolved send_resolved now repeat_interval

-- ---- why a new entry is due

-- the need for a new entry
pub data Need : Type 0 where
  NoEntry : Need  -- something fires, and there is no entry yet
  NewFiring : Need  -- an alert fires that the entry doesn't have as firing
  NoneFires : Need  -- nothing fires any more
  NewResolved : Need  -- resolved alerts are sent, and the entry doesn't have one of them as resolved
  RepeatInterval : Need  -- the repeat interval is over

-- the first need that applies, if one does
unfoldable pub need_of : Option LogEntry → LabelSets → LabelSets → Bool → Moment → Span → Option Need
need_of None firing resolved send_resolved now repeat_interval = if is_empty firing then None else Some NoEntry
need_of (Some entry) firing resolved send_resolved now repeat_interval =
    if not (is_subset firing entry.firing) then Some NewFiring
    else (if is_empty firing then (if is_empty entry.firing then None else Some NoneFires)
    else (if send_resolved && not (is_subset resolved entry.resolved) then Some NewResolved
    else (if nat_lt (entry.time + repeat_interval) now then Some RepeatInterval else None)))

-- a new entry is due exactly if it is needed
abbrev pub DueIsNeeded : Type 0
DueIsNeeded = (entry : Option LogEntry) (firing resolved : LabelSets) (send_resolved : Bool) (now : Moment) (repeat_interval : Span)
    → needs_update entry firing resolved send_resolved now repeat_interval ≡ is_some (need_of entry firing resolved send_resolved now repeat_interval)
