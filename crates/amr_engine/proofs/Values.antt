-- What holds of all values of a table holds of all values of the map that it shows.
use Rattle.std.proofs.Common.{Ordering, ◌≡◌, Bool, true, T, subst, arith}
use Rattle.std.specs.List.{list_all}
use Rattle.amr_labels.specs.Map.{Map, entries}
use Rattle.amr_tables.specs.Places.{values_of}
use Rattle.amr_tables.specs.Numbered.{Numbered, map_of}
use Rattle.amr_tables.proofs.Listed.{present_covers}

passes : (b : Bool) → b ≡ true → T b
passes b is = grind arith

holds : (b : Bool) → T b → b ≡ true
holds b h = grind arith

module _ {K V : Type 0} (R : K → K → Ordering) (p : V → Bool) (t : Numbered K V) (m : Map R V) (is : map_of R t ≡ m) where
  pub all_covered : list_all p (values_of t.cells) ≡ true → list_all (λ entry. p entry.1) (entries m) ≡ true
  all_covered all = subst (λ m. list_all (λ entry. p entry.1) (entries m) ≡ true) is (holds _ (present_covers R p t (passes _ all)))
