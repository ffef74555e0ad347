-- The entries of a kind are inserted at an index.
use Rattle.std.proofs.Common.{◌≡◌, ℕ, ◌+◌, Bool, true, false, cond, List, [], ◌∷◌, ◌++◌, take, drop, refl, sym, add-one, is_gt, append-nil}
use Rattle.amr_labels.specs.Labels.{Text, text_cmp}
use Rattle.amr_config.specs.declared.stated.receiver.Integration.{Integration}
use Rattle.amr_config.specs.Read.ReadReceivers.{with_entries, index_after}

inserted : (b : Bool) (x : Integration) (xs rest entries : List Integration) (i : ℕ) → rest ≡ (take i xs ++ entries) ++ drop i xs → cond b (entries ++ x ∷ xs) (x ∷ rest) ≡ (take (cond b 0 (i + 1)) (x ∷ xs) ++ entries) ++ drop (cond b 0 (i + 1)) (x ∷ xs)
inserted true x xs rest entries i is = refl
inserted false x xs rest entries i is = rw (add-one, is) refl

pub with_entries_is : (xs : List Integration) (kind : Text) (entries : List Integration) → with_entries xs kind entries ≡ (take (index_after xs kind) xs ++ entries) ++ drop (index_after xs kind) xs
with_entries_is [] kind entries = sym (append-nil entries)
with_entries_is (x ∷ xs) kind entries = inserted (is_gt (text_cmp x.kind kind)) x xs _ entries (index_after xs kind) (with_entries_is xs kind entries)
