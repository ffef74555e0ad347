-- A label set as JSON.
use Rattle.std.specs.Prelude.{ℕ, List, Option}
use Rattle.amr_labels.specs.Labels.{LabelSet, labels_of_pairs}
use Rattle.amr_events.specs.Shapes.{◌>>=◌, texts_in}
use Rattle.amr_events.specs.Lines.{json_of}

-- the label set of an object of texts
unfoldable pub labels_in : List ℕ → Option LabelSet
labels_in text = do
  object ← json_of text
  pairs ← texts_in object
  labels_of_pairs pairs
