-- What a notification enters in the log.
use Rattle.amr_time.specs.Time.{Moment}
use Rattle.amr_rules.specs.declared.dedup.LogEntry.{LogEntry}
use Rattle.amr_engine.specs.Flush.{Members, firing_of, resolved_of, labels_of}

-- the log entry for a notification about these members
abbrev pub entry_of : Moment → Members → LogEntry
entry_of at members = record { time = at; firing = labels_of (firing_of at members); resolved = labels_of (resolved_of at members) }
