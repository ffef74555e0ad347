-- The label set of a list of pairs has no empty name and no empty value.
use Rattle.std.proofs.Common.{arith, ◌≡◌, Bool, true, false, not, List, [], ◌∷◌, is_some, refl, sym, ap, ◌∙◌, ◌&&◌}
use Rattle.std.specs.FinMap.{find}
use Rattle.std.specs.Cmp.Lexicographic.{nat_list_cmp_total}
use Rattle.std.specs.List.{list_all, filter}
use Rattle.amr_labels.specs.Labels.{Text, text_cmp, LabelSet, IsLabelSet, is_empty, value_of}
use Rattle.amr_labels.specs.Map.{entries, get, retain_keys, get-entries, entries-retain_keys}
use Rattle.amr_labels.proofs.Pairs.{filter_by_values}

all_of_filter : {X : Type 0} (p : X → Bool) (xs : List X) → list_all p (filter p xs) ≡ true
all_of_filter p [] = refl
all_of_filter p (x ∷ xs) = grind (arith, all_of_filter p xs)

all_both : {X : Type 0} (p q : X → Bool) (xs : List X) → list_all p xs ≡ true → list_all q xs ≡ true → list_all (λ x. p x && q x) xs ≡ true
all_both p q [] h g = refl
all_both p q (x ∷ xs) h g = grind (arith, all_both p q xs)

-- if no entry has the empty name, all have names
all_named : (es : List (Text × Text)) → is_some (find text_cmp [] es) ≡ false → list_all (λ e. not (is_empty e.0)) es ≡ true
all_named [] h = refl
all_named (([], text) ∷ es) h = cc
all_named ((b ∷ bs, text) ∷ es) h = all_named es h

pub proper : (last kept : LabelSet) → kept ≡ retain_keys last (λ name. not (is_empty (value_of last name))) → is_some (get kept []) ≡ false → IsLabelSet kept
proper last kept e absent =
    let left : entries kept ≡ filter (λ (label : Text × Text). not (is_empty label.1)) (entries last) =
    ap (λ (m : LabelSet). entries m) e ∙ entries-retain_keys last (λ name. not (is_empty (value_of last name))) ∙ sym (filter_by_values nat_list_cmp_total last (λ text. not (is_empty text)) []) in
    all_both (λ (label : Text × Text). not (is_empty label.0)) (λ (label : Text × Text). not (is_empty label.1)) (entries kept)
    (all_named (entries kept) (ap is_some (sym (get-entries kept [])) ∙ absent))
    (ap (list_all (λ (label : Text × Text). not (is_empty label.1))) left ∙ all_of_filter (λ (label : Text × Text). not (is_empty label.1)) (entries last))
