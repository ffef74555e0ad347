-- A list that is `...` alone.
use Rattle.std.proofs.Common.{◌≡◌, ◌≢◌, false, List, [], ◌∷◌, length, get_or, refl, sym, ap, arith, codes}
use Rattle.std.specs.Ordering.{eq_by_cmp}
use Rattle.amr_labels.specs.Labels.{Text, text_cmp}
use Rattle.amr_config.specs.Read.RouteParts.{is_all}

pub not_alone : (names : List Text) → length names ≢ 1 → is_all names ≡ false
unfolding is_all
not_alone [] ne = refl
not_alone (name ∷ []) ne = absurd (ne refl)
not_alone (name ∷ next ∷ names) ne = refl

pub alone : (names : List Text) (name : Text) → length names ≡ 1 → name ≡ get_or names 0 name → is_all names ≡ eq_by_cmp text_cmp name (codes "...")
unfolding is_all
alone [] name e is = absurd (omega (arith, e))
alone (only ∷ []) name e is = ap (λ n. eq_by_cmp text_cmp n (codes "...")) (sym is)
alone (only ∷ next ∷ names) name e is = absurd (omega (arith, e))
