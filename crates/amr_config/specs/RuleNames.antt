-- The labels that decide which sides of the inhibition rules a label set is on.
use Rattle.std.specs.Prelude.{◌≡◌, Bool, ◌||◌, List}
use Rattle.std.specs.List.{list_any}
use Rattle.std.specs.Ordering.{eq_by_cmp}
use Rattle.amr_labels.specs.Labels.{Text, text_cmp, LabelSet}
use Rattle.amr_labels.specs.Map.{retain_keys}
use Rattle.amr_labels.specs.Matcher.Matchers.{Matcher}
use Rattle.amr_config.specs.declared.stated.rule.InhibitRule.{InhibitRule}

-- one of the matchers names the label
abbrev pub is_named : List Matcher → Text → Bool
is_named matchers name = list_any (λ matcher. eq_by_cmp text_cmp name matcher.name) matchers

-- a source matcher or a target matcher of one of the rules names the label
abbrev pub is_named_by : List InhibitRule → Text → Bool
is_named_by rules name = list_any (λ rule. is_named rule.source name || is_named rule.target name) rules

-- the label is among these
abbrev pub is_among : List Text → Text → Bool
is_among names name = list_any (eq_by_cmp text_cmp name) names

-- these are the labels that matchers of the rules name
abbrev pub AreNamesOf : List InhibitRule → List Text → Type 0
AreNamesOf rules names = (name : Text) → is_among names name ≡ is_named_by rules name

-- the labels that matchers of the rules name
unfoldable pub kept_for : List InhibitRule → LabelSet → LabelSet
kept_for rules labels = retain_keys labels (is_named_by rules)
