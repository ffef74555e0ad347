-- The label sets that can be sources of inhibition rules, as the table of alerts lists them.
use Rattle.std.specs.Prelude.{◌≡◌, ◌≤◌, ℕ, Bool, false, ◌&&◌, ◌||◌, List, map, length, take, Option, option_map, IsTrue}
use Rattle.std.specs.List.{filter_map}
use Rattle.std.specs.Borrow.{Bor}
use Rattle.std.specs.Map.Iter.{deref_pair}
use Rattle.std.specs.Option.{option_map_or}
use Rattle.std.specs.Ordering.{eq_by_cmp}
use Rattle.amr_labels.specs.Map.{get}
use Rattle.amr_labels.specs.Set.{Set, contains}
use Rattle.amr_labels.specs.Labels.{Text, LabelSet, label_set_cmp}
use Rattle.amr_labels.specs.Matcher.Matchers.{all_hold}
use Rattle.amr_labels.specs.Matcher.ValueBits.{value_bits}
use Rattle.amr_config.specs.declared.stated.rule.InhibitRule.{InhibitRule}
use Rattle.amr_rules.specs.declared.alert.Alert.{Alert}
use Rattle.amr_rules.specs.Muting.{Alerts, agree_on}
use Rattle.amr_tables.specs.Numbered.{Numbered, map_of, has_place}
use Rattle.amr_tables.specs.Members.{has}
use Rattle.amr_engine.specs.declared.indexes.rule_source.SourceSide.{SourceSide}
use Rattle.amr_engine.specs.declared.indexes.rule_source.CachedSide.{CachedSide}
use Rattle.amr_engine.specs.Indexes.LabelValues.{values_cmp, label_values}

-- the bits of the values of each of these label sets
abbrev pub bits_of : List LabelSet → List ℕ
bits_of = map value_bits

-- label sets under values of labels
abbrev pub ByValues : Type 0
ByValues = Numbered (List Text) (Set label_set_cmp)

-- whether the label set is in the set, if there is one
abbrev pub is_in : Option (Set label_set_cmp) → LabelSet → Bool
is_in found labels = option_map_or (λ listed. contains listed labels) found false

-- whether the label set is listed under these values
abbrev pub is_under : ByValues → List Text → LabelSet → Bool
is_under sources values labels = is_in (get (map_of values_cmp sources) values) labels

-- the label set matches the side, and has these values of the labels in `equal`
abbrev pub is_source : SourceSide → LabelSet → List Text → Bool
is_source side labels values = all_hold side.source labels && eq_by_cmp values_cmp values (label_values side.equal.items labels)

-- Of the label sets that were seen, those that match the side are listed under their values, and
-- nothing else.
pub record ListsSide (arrived : List LabelSet) (cached : CachedSide) : Type 0 where
  pub within : cached.covered ≤ length arrived
  pub exact : (values : List Text) (labels : LabelSet) → is_under cached.sources values labels ≡ (has label_set_cmp (take cached.covered arrived) labels && is_source cached.side labels values)

-- the side is that of the rule
pub record IsSideOf (side : SourceSide) (rule : InhibitRule) : Type 0 where
  pub source : side.source ≡ rule.source
  pub equal : side.equal.items ≡ rule.equal

-- the label set is listed under the values too
abbrev pub IsListedToo : List Text → LabelSet → ByValues → ByValues → Type 0
IsListedToo values labels old changed = (under : List Text) (other : LabelSet) → is_under changed under other
    ≡ ((eq_by_cmp values_cmp under values && eq_by_cmp label_set_cmp other labels) || is_under old under other)

-- the same label sets are listed under the same values
abbrev pub ListsSame : ByValues → ByValues → Type 0
ListsSame old changed = (under : List Text) (other : LabelSet) → is_under changed under other ≡ is_under old under other

-- the label set is listed at the side too, if it matches it
abbrev pub IsPut : LabelSet → CachedSide → CachedSide → Type 0
IsPut labels old changed = (under : List Text) (other : LabelSet) → is_under changed.sources under other
    ≡ ((all_hold old.side.source labels && (eq_by_cmp values_cmp under (label_values old.side.equal.items labels) && eq_by_cmp label_set_cmp other labels)) || is_under old.sources under other)

-- The listed label sets are those of the arrived that match the source side of the rule and agree
-- with the target on the labels in `equal`.
abbrev pub ListsAgreeing : InhibitRule → LabelSet → List LabelSet → Option (Set label_set_cmp) → Type 0
ListsAgreeing rule target arrived found = (labels : LabelSet) → is_in found labels
    ≡ (has label_set_cmp arrived labels && (all_hold rule.source labels && agree_on rule.equal labels target))

-- the stored alerts of listed label sets
abbrev pub stored_of : Alerts → List LabelSet → List (LabelSet × Alert)
stored_of alerts listed = filter_map (λ labels. option_map (λ alert. (labels, alert)) (get alerts labels)) listed

-- the labels and alerts that a list of references refers to
abbrev pub pairs_of : List (Bor LabelSet × Bor Alert) → List (LabelSet × Alert)
pairs_of = map deref_pair

-- Each label set that has a place is among the arrived.
abbrev pub AllArrived : Numbered LabelSet Alert → List LabelSet → Type 0
AllArrived alerts arrived = (labels : LabelSet) → IsTrue (has_place label_set_cmp alerts labels) → IsTrue (has label_set_cmp arrived labels)
