-- The names and values of a posted alert, kept as a label set where they are those of one.
use Rattle.std.specs.Prelude.{◌≡◌, List, Some}
use Rattle.amr_labels.specs.Labels.{Text, labels_of_pairs}
use Rattle.amr_labels.specs.Map.{entries}
use Rattle.amr_events.specs.declared.posts.posted_labels.StatedLabels.{StatedLabels}
use Rattle.amr_events.specs.declared.posts.posted_labels.StatedLabels.TheVariants.{OfSet, Others}

-- the names with their values
abbrev pub stated_pairs : StatedLabels → List (Text × Text)
stated_pairs (OfSet labels) = entries labels
stated_pairs (Others labeled) = labeled

-- a label set is that of its own names and values
abbrev pub IsOwnSet : StatedLabels → Type 0
IsOwnSet (OfSet labels) = labels_of_pairs (entries labels) ≡ Some labels
IsOwnSet (Others labeled) = Unit {0}
