-- The entries of a set, as a map without values, of its items.
use Rattle.std.specs.Prelude.{List, map}
use Rattle.amr_labels.specs.Labels.{LabelSet}

abbrev pub as_entries : List LabelSet → List (LabelSet × Unit {0})
as_entries items = map (λ labels. (labels, tt)) items
