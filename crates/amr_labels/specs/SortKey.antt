-- The sort key of a label set: one text in whose order label sets are ordered.
use Rattle.std.specs.Prelude.{Bool, ◌||◌, ◌==◌, List, [], ◌∷◌, ◌++◌, flat_map}
use Rattle.std.specs.List.{list_any}
use Rattle.amr_labels.specs.Labels.{Text}

-- a text, and then a 0, which is less than all of its bytes
abbrev pub key_of_text : Text → Text
key_of_text text = text ++ 0 ∷ []

abbrev pub key_of_label : Text × Text → Text
key_of_label label = key_of_text label.0 ++ key_of_text label.1

-- the names and the values, in order
abbrev pub sort_key : List (Text × Text) → Text
sort_key labels = flat_map key_of_label labels

abbrev pub has_zero : Text → Bool
has_zero text = list_any (λ byte. byte == 0) text

-- whether the name or the value has a 0
abbrev pub label_has_zero : Text × Text → Bool
label_has_zero label = has_zero label.0 || has_zero label.1

abbrev pub has_zeros : List (Text × Text) → Bool
has_zeros labels = list_any label_has_zero labels
