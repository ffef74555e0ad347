-- A new entry of the notification log is due exactly if it is needed.
use Rattle.std.proofs.Common.{arith}
use Rattle.amr_rules.specs.Dedup.{needs_update, need_of, DueIsNeeded}

pub due_is_needed : DueIsNeeded
unfolding needs_update need_of
due_is_needed entry firing resolved send_resolved now repeat_interval = grind arith
