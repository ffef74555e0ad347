use Rattle.std.proofs.Common.{◌≡◌, ◌++◌, take}
use Rattle.amr_labels.specs.SortKey.{sort_key}
use Rattle.amr_labels.specs.Lent.{lent_texts}
use Rattle.amr_labels.proofs.keyed_texts.is_joined.Given as goal

abbrev pub invariant-loop-name : goal.invariant-loop-name
invariant-loop-name l = l.key ≡ sort_key (lent_texts (take l.name-index l.stated)) ++ l.rest
