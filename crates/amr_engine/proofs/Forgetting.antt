-- A group that isn't cached needn't be forgotten.
use Rattle.std.proofs.Common.{◌≡◌, Option, None, is_some, IsTrue, option_copied, Bor, Ordering, sym, arith}
use Rattle.std.specs.FinMap.{IsAntisymmetric}
use Rattle.std.specs.Cmp.{IsTotalOrder}
use Rattle.std.proofs.lemmas.Map.Views.{tells_apart}
use Rattle.amr_labels.specs.Map.{Map, get, remove, get-remove, same_map}

-- what has no number has no value
pub none_placed : {X N : Type 0} (number : Option N) (value : Option (Bor X)) → number ≡ None → (IsTrue (is_some value) → IsTrue (is_some number)) → option_copied value ≡ None
none_placed number value none placed = grind arith

-- a map without a key is as if it were removed
pub unknown_left : {K X : Type 0} {R : K → K → Ordering} → IsTotalOrder R → IsAntisymmetric R → (m : Map R X) (key : K) → get m key ≡ None → m ≡ remove m key
unknown_left o exact m key unknown = sym (same_map o exact (remove m key) m (λ other. grind (arith, get-remove o m key other, tells_apart exact other key)))
