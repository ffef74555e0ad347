use Rattle.std.proofs.Common.{◌≡◌, drop}
use Rattle.serde_json.specs.View.{view, items_view}
use Rattle.amr_events.specs.Shapes.{each_item}
use Rattle.amr_events.specs.Posted.{alert_of, alerts_of}
use Rattle.amr_events.proofs.Steps.{ahead}
use Rattle.amr_events.proofs.posted.alerts.Given as goal

abbrev pub invariant-loop-item : goal.invariant-loop-item
invariant-loop-item l = ahead l.alerts.items (each_item alert_of (items_view (drop l.item-index l.item-items))) ≡ alerts_of (view l.value)
