-- The label sets that have a place are among those that arrived.
use Rattle.std.proofs.Common.{OnErr, true≢false, [], ◌≡◌, ℕ, List, ◌∷◌, ◌++◌, Result, OnOk, sym, ap, subst, ◌∙◌, IsTrue, is_some, arith, Ok, Err}
use Rattle.std.specs.Ordering.{eq_by_cmp}
use Rattle.std.specs.FinMap.{find}
use Rattle.std.proofs.lemmas.List.Folds.{list_any-append}
use Rattle.amr_labels.specs.Labels.{LabelSet, label_set_cmp}
use Rattle.amr_rules.specs.declared.alert.Alert.{Alert}
use Rattle.amr_tables.specs.Numbered.{Numbered, has_place, GetsNumber, SamePlaces}
use Rattle.amr_engine.specs.Indexes.RuleSources.{AllArrived}

pub nothing_arrived : (t : Numbered LabelSet Alert) (arrived : List LabelSet) → t.numbers ≡ [] → AllArrived t arrived
unfolding has_place
nothing_arrived t arrived none labels h = absurd (true≢false (sym h ∙ ap (λ (ns : List (LabelSet × ℕ)). is_some (find label_set_cmp labels ns)) none))

pub arrived_same : (t u : Numbered LabelSet Alert) (arrived : List LabelSet) → AllArrived t arrived → SamePlaces label_set_cmp t u → AllArrived u arrived
arrived_same t u arrived is same labels h = is labels (subst IsTrue (same labels) h)

-- a label set that gets a place has arrived
pub arrived_more : {T E : Type 0} (r : Result T E) (t u : Numbered LabelSet Alert) (arrived : List LabelSet) (key : LabelSet) (n : ℕ)
    → OnOk r (GetsNumber label_set_cmp t u key n) → OnErr r (SamePlaces label_set_cmp t u) → AllArrived t arrived → AllArrived u (arrived ++ key ∷ [])
unfolding has_place
arrived_more (Err e) t u arrived key n gets same is labels h = grind (arith, list_any-append (eq_by_cmp label_set_cmp labels) arrived (key ∷ []), same labels, is labels)
arrived_more (Ok x) t u arrived key n gets same is labels h = grind (arith, list_any-append (eq_by_cmp label_set_cmp labels) arrived (key ∷ []), gets labels, is labels)
