-- A pattern is found without its groups exactly where it is found with them.
use Rattle.std.proofs.Common.{arith, ◌≡◌, ℕ, zero, suc, ◌-◌, Bool, cond, List, [], ◌∷◌, map, Option, Some, None, IsSome, is_some, refl, sym, ap, ◌⊎◌, subst}
use Rattle.std.specs.Cmp.{both_ways}
use Rattle.regex_hir.specs.Re.{Re, cat, alt, group, plus, Rest, accept, attempt}
use Rattle.regex_hir.specs.Meaning.{meaning, cat_all, alt_all, copies, up_to, at_least, repeat}
use Rattle.regex_hir.specs.Matches.{Rounds, Matches}
use Rattle.regex_hir.specs.Text.{is_boundary}
use Rattle.regex_hir.specs.Find.{first_from, find_str}
use Rattle.regex_hir.specs.declared.hir.Hir.{Hir}
use Rattle.regex_hir.proofs.AttemptLemmas.{attempt_sound, attempt_complete}
use Rattle.regex_hir.proofs.OptionLemmas.{value_of_IsSome}
use Rattle.amr_labels.specs.Matcher.Searches.{without_groups}

-- what both match
same_matches : (hay : List ℕ) (re : Re) (i j : ℕ) → Matches hay (without_groups re) i j ≡ Matches hay re i j
same_matches hay (cat a b) i j = λ k. (l : ℕ) × same_matches hay a i l k × same_matches hay b l j k
same_matches hay (alt a b) i j = λ k. same_matches hay a i j k ⊎ same_matches hay b i j k
same_matches hay (group n a) i j = same_matches hay a i j
same_matches hay (plus greedy a) i j = λ k. Rounds (λ from to. same_matches hay a from to k) i j
same_matches hay _ i j = refl

-- ---- where both are found

-- what matches wherever another pattern does is found wherever that is
found_too : (hay : List ℕ) (a b : Re) (i : ℕ) → ((j : ℕ) → Matches hay a i j → Matches hay b i j) → IsSome (attempt hay a accept i) → IsSome (attempt hay b accept i)
found_too hay a b i h some =
    let found = value_of_IsSome (attempt hay a accept i) some in
    let way = attempt_sound hay a accept i found.0 found.1 in
    attempt_complete hay b accept i way.at (h way.at way.leads) refl

found_at : (hay : List ℕ) (re : Re) (i : ℕ) → is_some (attempt hay (without_groups re) accept i) ≡ is_some (attempt hay re accept i)
found_at hay re i =
    both_ways _ _
    (found_too hay (without_groups re) re i (λ j. subst (λ X. X) (same_matches hay re i j)))
    (found_too hay re (without_groups re) i (λ j. subst (λ X. X) (sym (same_matches hay re i j))))

some_if : {A : Type 0} (b : Bool) (o p : Option A) → is_some o ≡ is_some p → is_some (cond b o None) ≡ is_some (cond b p None)
some_if b o p same = grind arith

first_alike : (f g : Rest) → ((i : ℕ) → is_some (f i) ≡ is_some (g i)) → (n i : ℕ) → is_some (first_from f n i) ≡ is_some (first_from g n i)
unfolding first_from
first_alike f g same zero i = refl
first_alike f g same (suc n) i = grind (arith, same i, first_alike f g same n)

pub found_alike : (re : Re) (hay : List ℕ) → is_some (find_str (without_groups re) hay 0) ≡ is_some (find_str re hay 0)
unfolding find_str
found_alike re hay = first_alike _ _ (λ i. some_if (is_boundary hay i) _ _ (found_at hay re i)) _ 0

-- ---- what the parts of a tree mean without their groups

ungrouped_copies : (n : ℕ) (a b : Re) → without_groups (copies n a b) ≡ copies n (without_groups a) (without_groups b)
ungrouped_copies zero a b = refl
ungrouped_copies (suc n) a b = ap (cat (without_groups a)) (ungrouped_copies n a b)

ungrouped_up_to : (greedy : Bool) (n : ℕ) (a : Re) → without_groups (up_to greedy n a) ≡ up_to greedy n (without_groups a)
ungrouped_up_to greedy zero a = refl
ungrouped_up_to greedy (suc n) a = grind (arith, ungrouped_up_to greedy n a)

ungrouped_at_least : (greedy : Bool) (n : ℕ) (a : Re) → without_groups (at_least greedy n a) ≡ at_least greedy n (without_groups a)
ungrouped_at_least greedy zero a = grind arith
ungrouped_at_least greedy (suc n) a = ungrouped_copies n a (plus greedy a)

pub ungrouped_repeat : (least : ℕ) (most : Option ℕ) (greedy : Bool) (a : Re) → without_groups (repeat least most greedy a) ≡ repeat least most greedy (without_groups a)
unfolding repeat
ungrouped_repeat least None greedy a = ungrouped_at_least greedy least a
ungrouped_repeat least (Some most) greedy a =
    cc (ungrouped_copies least a (up_to greedy (most - least) a), ungrouped_up_to greedy (most - least) a)

pub ungrouped_cat_all : (subs : List Hir) → without_groups (cat_all (map meaning subs)) ≡ cat_all (map (λ sub. without_groups (meaning sub)) subs)
ungrouped_cat_all [] = refl
ungrouped_cat_all (sub ∷ subs) = ap (cat (without_groups (meaning sub))) (ungrouped_cat_all subs)

pub ungrouped_alt_all : (subs : List Hir) → without_groups (alt_all (map meaning subs)) ≡ alt_all (map (λ sub. without_groups (meaning sub)) subs)
ungrouped_alt_all [] = refl
ungrouped_alt_all (sub ∷ subs) = ap (alt (without_groups (meaning sub))) (ungrouped_alt_all subs)
