use Rattle.std.proofs.Common.{◌≡◌, ◌++◌, take, flat_map, codes, string_bytes}
use Rattle.amr_labels.specs.ObjectText.{member_text}
use Rattle.amr_labels.proofs.object_text.push_others.Given as goal

abbrev pub invariant-loop-label : goal.invariant-loop-label
invariant-loop-label l =
    string_bytes l.out ≡ string_bytes l.initial.out ++ flat_map (λ label. codes "," ++ member_text label) (take l.label-index l.labels)
