-- When a new entry of the notification log is due.
use Rattle.std.specs.Prelude.{Bool, Option}
use Rattle.amr_time.specs.Time.{Span}
use Rattle.amr_rules.specs.Dedup.{needs_update}
use Rattle.amr_rules.specs.declared.dedup.LogEntry.{LogEntry}

-- whether the dedup check says that this entry is due, given the former one, if there is one
abbrev pub is_due : Option LogEntry → LogEntry → Bool → Span → Bool
is_due former entry send_resolved repeat_interval =
    needs_update former entry.firing entry.resolved send_resolved entry.time repeat_interval
