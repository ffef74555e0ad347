-- What the kinds of characters mean.
use Rattle.std.proofs.Common.{arith, ◌≡◌, ℕ, true, if◌then◌else◌, ap}
use Rattle.std.specs.Char.{is_whitespace}
use Rattle.std.proofs.lemmas.Bool.Decides.{nat_tests}
use Rattle.amr_labels.specs.declared.matcher.matcher_steps.Kind.{Kind}
use Rattle.amr_labels.specs.declared.matcher.matcher_steps.Kind.TheVariants.{Blank, Opening, Closing, Bang, Equals, Tilde, Comma, Quote, Reserved, Plain}
use Rattle.amr_labels.specs.Matcher.MatcherText.{is_literal}
use Rattle.amr_labels.specs.Matcher.MatcherReading.{mark_kind, kind_of}

-- what a kind says of its characters
abbrev pub Means : Kind → ℕ → Type 0
Means Blank c = is_whitespace c ≡ true
Means Opening c = c ≡ 123
Means Closing c = c ≡ 125
Means Bang c = c ≡ 33
Means Equals c = c ≡ 61
Means Tilde c = c ≡ 126
Means Comma c = c ≡ 44
Means Quote c = c ≡ 34
Means Reserved c = Unit {0}
Means Plain c = is_literal c ≡ true

means_of : (c : ℕ) → Means (kind_of c) c
unfolding kind_of
means_of c = grind (arith, nat_tests)

pub means : (c : ℕ) (k : Kind) → kind_of c ≡ k → Means k c
means c k e = rw e at (means_of c)

pub kind_of_blank : (c : ℕ) → is_whitespace c ≡ true → kind_of c ≡ Blank
unfolding kind_of
kind_of_blank c h = ap (λ b. if b then Blank else mark_kind c) h

pub kind_of_literal : (c : ℕ) → is_literal c ≡ true → kind_of c ≡ Plain
unfolding kind_of
kind_of_literal c h = grind (arith, nat_tests)
