use Rattle.std.proofs.Common.{◌≡◌, drop, ◌||◌}
use Rattle.std.specs.BTreeSet.{contains}
use Rattle.serde_json.specs.View.{items_view}
use Rattle.amr_labels.specs.Labels.{Text, text_cmp}
use Rattle.amr_config.specs.Read.Members.{any_item}
use Rattle.amr_config.specs.Read.ReadIntervals.{has_name}
use Rattle.amr_config.proofs.read.whole.add_names.Given as goal

-- a name is in the set or among the items that are left exactly if it was in the set or is among the items
abbrev pub invariant-loop-item : goal.invariant-loop-item
invariant-loop-item l =
    (name : Text) → (contains text_cmp l.names name || any_item (has_name name) (items_view (drop l.item-index l.items))) ≡ (contains text_cmp l.fn.names name || any_item (has_name name) (items_view l.items))
