-- The operator and the value of a comparison.
use Rattle.amr_labels.specs.declared.matcher.Operator.{Operator}
use Rattle.amr_labels.specs.declared.matcher.Operator.TheVariants.{Equal, NotEqual, Matches as ByPattern, NotMatches}
use Rattle.amr_labels.specs.declared.matcher.comparison.Comparison.{Comparison}
use Rattle.amr_labels.specs.declared.matcher.comparison.Comparison.TheVariants.{Is, IsNot, Matches, MatchesNot}
use Rattle.amr_labels.specs.Labels.{Text}

abbrev pub operator_of : Comparison → Operator
operator_of (Is own) = Equal
operator_of (IsNot own) = NotEqual
operator_of (Matches own) = ByPattern
operator_of (MatchesNot own) = NotMatches

abbrev pub own_value : Comparison → Text
own_value (Is own) = own
own_value (IsNot own) = own
own_value (Matches own) = own
own_value (MatchesNot own) = own
