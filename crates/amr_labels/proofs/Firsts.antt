-- The first pair under a name, if one name after the other is tested for equality.
use Rattle.std.proofs.Common.{Bool, ◌≡◌, ℕ, ◌+◌, ◌<◌, cond, List, Some, nat_eq, length, get_or, drop, sym, ap, ◌∙◌}
use Rattle.std.specs.FinMap.{find}
use Rattle.std.proofs.lemmas.Cmp.{eq_by_cmp_equiv}
use Rattle.std.proofs.lemmas.List.{drop_more}
use Rattle.std.specs.Cmp.{unsigned_ties}
use Rattle.std.specs.Cmp.Lexicographic.{lists_ties, nat_list_cmp_total}
use Rattle.std.specs.Ordering.{nat_cmp, eq_by_cmp}
use Rattle.amr_labels.specs.Labels.{Text, text_cmp}
use lib.Pointwise.{pointwise}

-- a test for equality answers as the order does
pub same_texts : (a b : Text) → pointwise nat_eq a b ≡ eq_by_cmp text_cmp a b
same_texts = lists_ties nat_cmp unsigned_ties

module _ {X : Type 0} (name : Text) (pairs : List (Text × X)) (i : ℕ) (d : Text × X) (within : i < length pairs) where
  -- the pair at an index comes first, whether or not its name is the one that is looked for
  pub found_from : (same : Bool) → pointwise nat_eq (get_or pairs i d).0 name ≡ same
      → find text_cmp name (drop i pairs) ≡ cond same (Some (get_or pairs i d).1) (find text_cmp name (drop (i + 1) pairs))
  found_from same e =
      ap (find text_cmp name) (drop_more pairs i d within)
      ∙ ap (λ b. cond b (Some (get_or pairs i d).1) (find text_cmp name (drop (i + 1) pairs)))
      ((eq_by_cmp_equiv nat_list_cmp_total).symm name (get_or pairs i d).0 ∙ sym (same_texts (get_or pairs i d).0 name) ∙ e)
