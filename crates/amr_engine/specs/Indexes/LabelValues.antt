-- Values of the labels in `equal` of an inhibition rule.
use Rattle.std.specs.Prelude.{List, map}
use Rattle.std.specs.declared.cmp.Ordering.{Ordering}
use Rattle.std.specs.Cmp.{IsTotalOrder}
use Rattle.std.specs.Cmp.Lexicographic.{slice_cmp, lists_total, nat_list_cmp_total}
use Rattle.std.specs.FinMap.{IsAntisymmetric, slice_cmp-IsAntisymmetric}
use Rattle.amr_labels.specs.Labels.{Text, text_cmp, text_cmp-IsAntisymmetric, LabelSet, value_of}

-- lists of values, in the order of the names that they are the values of
abbrev pub values_cmp : List Text → List Text → Ordering
values_cmp = slice_cmp text_cmp

pub values_cmp_total : IsTotalOrder values_cmp
values_cmp_total = lists_total nat_list_cmp_total

pub values_cmp-IsAntisymmetric : IsAntisymmetric values_cmp
values_cmp-IsAntisymmetric = slice_cmp-IsAntisymmetric text_cmp-IsAntisymmetric

-- the values of these labels in a label set, an absent label being empty
abbrev pub label_values : List Text → LabelSet → List Text
label_values names labels = map (value_of labels) names
