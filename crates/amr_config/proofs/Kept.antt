-- What a grouping keeps of a label set: the label set of the labels whose names it keeps.
use Rattle.std.proofs.Common.{◌≡◌, true, false, List, [], ◌∷◌, Option, None, Some, refl, sym, ap, filter}
use Rattle.amr_labels.specs.Labels.{LabelSet}
use Rattle.amr_labels.specs.Map.{entries, empty, same_entries_map, entries-retain_keys}
use Rattle.amr_config.specs.declared.stated.route.Grouping.{Grouping}
use Rattle.amr_config.specs.declared.stated.route.Grouping.TheVariants.{AllLabels, Named}
use Rattle.amr_config.specs.Routing.{grouped_by}
use Rattle.amr_config.specs.Groups.{keeps}

all_kept : {X : Type 0} (xs : List X) → filter (λ _. true) xs ≡ xs
all_kept [] = refl
all_kept (x ∷ xs) = ap (λ ys. x ∷ ys) (all_kept xs)

none_kept : {X : Type 0} (xs : List X) → filter (λ _. false) xs ≡ []
none_kept [] = refl
none_kept (x ∷ xs) = none_kept xs

pub entries_kept : (grouping : Option Grouping) (labels : LabelSet) → filter (λ label. keeps grouping label.0) (entries labels) ≡ entries (grouped_by grouping labels)
unfolding entries empty
entries_kept None labels = none_kept (entries labels)
entries_kept (Some AllLabels) labels = all_kept (entries labels)
entries_kept (Some (Named names)) labels = sym (entries-retain_keys labels _)

-- a label set with the entries that a grouping keeps is the one that it keeps
pub same_group : (grouping : Option Grouping) (labels made : LabelSet) → entries made ≡ entries (grouped_by grouping labels) → made ≡ grouped_by grouping labels
same_group grouping labels made e = same_entries_map made (grouped_by grouping labels) e
