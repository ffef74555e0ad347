use Rattle.std.proofs.Common.{◌≡◌, take}
use Rattle.amr_engine.proofs.apply.notes_from.Given as goal

abbrev pub invariant-loop-notification : goal.invariant-loop-notification
invariant-loop-notification l = l.added.items ≡ take l.notification-index l.notification-items
