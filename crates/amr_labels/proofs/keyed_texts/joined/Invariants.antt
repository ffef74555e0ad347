use Rattle.std.proofs.Common.{◌≡◌, take, string_bytes}
use Rattle.amr_labels.specs.SortKey.{sort_key}
use Rattle.amr_labels.proofs.keyed_texts.joined.Given as goal

abbrev pub invariant-loop-label : goal.invariant-loop-label
invariant-loop-label l = string_bytes l.key ≡ sort_key (take l.label-index l.labels)
