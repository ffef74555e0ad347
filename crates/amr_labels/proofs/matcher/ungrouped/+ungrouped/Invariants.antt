use Rattle.std.proofs.Common.{◌≡◌, map, take}
use Rattle.regex_hir.specs.Meaning.{meaning}
use Rattle.amr_labels.specs.Matcher.Searches.{without_groups}
use Rattle.amr_labels.proofs.matcher.ungrouped.+ungrouped.Given as goal

abbrev pub invariant-all_ungrouped-loop-i : goal.invariant-all_ungrouped-loop-i
invariant-all_ungrouped-loop-i l =
    map meaning l.bare.items ≡ map (λ sub. without_groups (meaning sub)) (take l.i l.subs)
