-- Sets of names, and whether names differ.
use Rattle.std.proofs.Common.{◌≡◌, ℕ, ◌+◌, ◌<◌, true, false, not, List, [], ◌∷◌, length, take, drop, get_or, refl, ◌∙◌, zero, suc, arith}
use Rattle.std.specs.BTreeSet.{BTreeSet, contains, Updates}
use Rattle.std.specs.Cmp.Lexicographic.{nat_list_cmp_total}
use Rattle.std.specs.List.{list_any}
use Rattle.std.specs.Option.{option_map_or}
use Rattle.std.specs.Ordering.{eq_by_cmp}
use Rattle.std.proofs.lemmas.Cmp.{eq_by_cmp_equiv}
use Rattle.std.proofs.lemmas.List.{drop_more}
use Rattle.std.proofs.lemmas.List.Folds.{list_any_more}
use Rattle.amr_labels.specs.Labels.{Text, text_cmp}
use Rattle.amr_config.specs.declared.stated.receiver.Receiver.{Receiver}
use Rattle.amr_config.specs.declared.stated.route.Route.{Route}
use Rattle.amr_config.specs.Read.Judging.{is_known, is_lost, is_name_of, are_named_apart}
use Rattle.amr_config.specs.Read.NameSets.{names_of, IsSetOf, is_missing}
use Rattle.amr_config.specs.Read.Shape.{are_different}

swapped : (a b : Text) → eq_by_cmp text_cmp a b ≡ eq_by_cmp text_cmp b a
swapped a b = (eq_by_cmp_equiv nat_list_cmp_total).symm a b

-- ---- one more name

-- the name before those in the set is added
pub one_before : (names : List Text) (i j : ℕ) (name : Text) (old new : BTreeSet Text) → j ≡ i + 1 → i < length names → name ≡ get_or names i name
    → IsSetOf (drop j names) old → Updates text_cmp old new name true → IsSetOf (drop i names) new
one_before names i j name old new next within at is up q = grind (arith, drop_more names i name, is q, up.0 q, swapped name q)

-- the name after those in the set is added
pub one_after : (names : List Text) (i : ℕ) (name : Text) (old new : BTreeSet Text) → i < length names → name ≡ get_or names i name
    → IsSetOf (take i names) old → Updates text_cmp old new name true → IsSetOf (take (i + 1) names) new
one_after names i name old new within at is up q = grind (arith, list_any_more (eq_by_cmp text_cmp q) names i name, is q, up.0 q, swapped name q)

-- ---- names that differ

-- names that are repeated at the end of a list are repeated in the list
alike : (i : ℕ) (names : List Text) → are_different (drop i names) ≡ false → are_different names ≡ false
alike zero names e = e
alike (suc i) [] e = e
alike (suc i) (name ∷ names) e = grind (arith, alike i names e)

-- a name that is in the set is repeated
pub repeated : (names : List Text) (i j : ℕ) (name : Text) (old : BTreeSet Text) → j ≡ i + 1 → i < length names → name ≡ get_or names i name
    → IsSetOf (drop j names) old → not (contains text_cmp old name) ≡ false → are_different names ≡ false
repeated names i j name old next within at is found = grind (arith, alike i names, drop_more names i name, is name)

-- a name that isn't in the set differs from the names after it
pub still_apart : (names : List Text) (i j : ℕ) (name : Text) (old : BTreeSet Text) → j ≡ i + 1 → i < length names → name ≡ get_or names i name
    → IsSetOf (drop j names) old → not (contains text_cmp old name) ≡ true → are_different (drop j names) ≡ true → are_different (drop i names) ≡ true
still_apart names i j name old next within at is absent apart = grind (arith, drop_more names i name, is name)

-- ---- receivers that exist

named : (name : Text) (receivers : List Receiver) → list_any (eq_by_cmp text_cmp name) (names_of receivers) ≡ is_known receivers name
unfolding is_known
named name [] = refl
named name (receiver ∷ receivers) = grind (arith, swapped name receiver.name, named name receivers)

-- a route names a missing receiver exactly if it names one that doesn't exist
pub any_missing : (receivers : List Receiver) (set : BTreeSet Text) → IsSetOf (names_of receivers) set → (routes : List Route)
    → list_any (is_missing set) routes ≡ list_any (is_lost receivers) routes
unfolding is_lost
any_missing receivers set is routes =
    λ i. list_any (λ route. option_map_or (λ name. not ((is name ∙ named name receivers) i)) route.receiver false) routes

-- ---- receivers whose names differ

among : (name : Text) (receivers : List Receiver) → list_any (eq_by_cmp text_cmp name) (names_of receivers) ≡ is_name_of name receivers
among name [] = refl
among name (receiver ∷ receivers) = grind (arith, among name receivers)

-- receivers have different names exactly if their names differ
pub named_apart : (receivers : List Receiver) → are_different (names_of receivers) ≡ are_named_apart receivers
named_apart [] = refl
named_apart (receiver ∷ receivers) = grind (arith, among receiver.name receivers, named_apart receivers)
