-- The line from a route up to the root.
use Rattle.std.proofs.Common.{◌≡◌, ℕ, zero, suc, ◌<◌, ◌≤◌, [], ◌∷◌, Some, None, refl, arith}
use Rattle.amr_config.specs.Stated.Config.{Config}
use Rattle.amr_config.specs.Routing.{parent_of, line_within, line_of}
use Rattle.amr_config.specs.Settled.{AreParentsFirst}

module _ (config : Config) (first : AreParentsFirst config) where
  -- more room above than there are routes before changes nothing
  pub same_line : (most other n : ℕ) → n ≤ most → n ≤ other → line_within most config n ≡ line_within other config n
  same_line zero zero n h k = refl
  same_line zero (suc other) n h k = grind (arith, first 0)
  same_line (suc most) zero n h k = grind (arith, first 0)
  same_line (suc most) (suc other) n h k =
      let lower : (p : ℕ) → p < n → line_within most config p ≡ line_within other config p = λ p l. same_line most other p (omega (arith, l, h)) (omega (arith, l, k)) in
      grind (arith, first n, lower)

  pub line_of-root : (n : ℕ) → parent_of config n ≡ None → line_of config n ≡ n ∷ []
  line_of-root zero e = refl
  line_of-root (suc n) e = rw e

  pub line_of-child : (n parent : ℕ) → parent_of config n ≡ Some parent → line_of config n ≡ n ∷ line_of config parent
  line_of-child zero parent e = absurd (omega (arith, first 0 parent e))
  line_of-child (suc n) parent e =
      grind (arith, same_line n parent parent, first (suc n) parent)
