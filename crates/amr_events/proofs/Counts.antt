-- How many members an object and how many entries a map has, and a map as that of its entries.
use Rattle.std.proofs.Common.{◌≡◌, suc, List, [], ◌∷◌, length, ◌==◌, true, reverse, String, Global, refl, sym, ap, ◌∙◌, arith}
use Rattle.std.specs.Cmp.Lexicographic.{nat_list_cmp_total}
use Rattle.std.proofs.lemmas.Bool.Decides.{nat_tests}
use Rattle.serde_json.specs.View.{members_view}
use Rattle.serde_json.specs.declared.value.Value.{Value}
use Rattle.amr_labels.specs.Labels.{Text, text_cmp, text_cmp-IsAntisymmetric}
use Rattle.amr_labels.specs.Map.{Map, entries, empty, from_entries, from_sorted, same_entries_map, entries-sorted, entries-from_sorted}
use Rattle.amr_labels.proofs.Ascending.{ascending_map}
use Rattle.amr_events.specs.Versions.{member_count}

-- the members of an object are as many as its entries
pub counted : (es : List (String Global × Value)) → member_count (members_view es) ≡ length es
counted [] = refl
counted (e ∷ es) = ap suc (counted es)

pub none_of : {A : Type 0} (xs : List A) → length xs ≡ 0 → xs ≡ []
none_of [] none = refl
none_of (x ∷ xs) none = absurd (omega (arith, none))

-- a map without entries is empty
pub no_entries : (m : Map text_cmp Text) → (length (entries m) == 0) ≡ true → m ≡ empty
unfolding entries empty
no_entries m none = same_entries_map m empty (none_of (entries m) (grind (arith, nat_tests)))

-- a map is that of its pairs, whichever of them comes last
pub from_own : (m : Map text_cmp Text) → m ≡ from_entries (reverse (entries m))
from_own m =
    same_entries_map m (from_sorted (entries m)) (sym (entries-from_sorted text_cmp (entries m) (entries-sorted m)))
    ∙ ascending_map nat_list_cmp_total text_cmp-IsAntisymmetric (entries m) (entries-sorted m)
