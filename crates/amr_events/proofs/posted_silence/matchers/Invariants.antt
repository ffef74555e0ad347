use Rattle.std.proofs.Common.{◌≡◌, drop}
use Rattle.serde_json.specs.View.{view, items_view}
use Rattle.amr_events.specs.Shapes.{each_item}
use Rattle.amr_events.specs.PostedSilences.{matcher_of, matchers_of}
use Rattle.amr_events.proofs.Steps.{ahead}
use Rattle.amr_events.proofs.posted_silence.matchers.Given as goal

abbrev pub invariant-loop-item : goal.invariant-loop-item
invariant-loop-item l = ahead l.matchers.items (each_item matcher_of (items_view (drop l.item-index l.item-items))) ≡ matchers_of (view l.value)
