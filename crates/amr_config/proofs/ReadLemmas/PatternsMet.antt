-- A pattern of a text is among those that the walk meets there.
use Rattle.std.proofs.Common.{◌≡◌, ℕ, Bool, true, false, cond, List, [], ◌∷◌, ◌++◌, map, refl, inr, arith, Contains, filter}
use Rattle.std.proofs.lemmas.List.Elements.{Contains-append_right}
use Rattle.amr_labels.specs.Matcher.Matchers.{Matcher, takes_pattern}
use Rattle.amr_labels.specs.Matcher.MatcherRefusals.{OneMayBeRefused}
use Rattle.amr_config.specs.declared.read.error.ConfigError.{ConfigError}
use Rattle.amr_config.specs.declared.read.error.ConfigError.TheVariants.{Memory, Refused}
use Rattle.amr_config.specs.Read.Answers.{IsFault, Stops}
use Rattle.amr_config.specs.Read.Readings.{patterns_in, matchers_met, MayGive}

still_met : {X Y : Type 0} (b : Bool) (f : X → Y) (x : X) (xs : List X) (y : Y) → Contains (map f xs) y → Contains (map f (cond b (x ∷ xs) xs)) y
still_met true f x xs y h = Contains-append_right (f x ∷ []) (map f xs) y h
still_met false f x xs y h = h

pub is_met : (path : List ℕ) (before after : List Matcher) (refused : Matcher) → takes_pattern refused.operator ≡ true → Contains (patterns_in path (before ++ refused ∷ after)) (path, refused.value)
is_met path [] after refused takes = rw takes (0, omega arith, refl)
is_met path (m ∷ before) after refused takes =
    still_met (takes_pattern m.operator) (λ (m : Matcher). (path, m.value)) m (filter (λ (m : Matcher). takes_pattern m.operator) (before ++ refused ∷ after)) (path, refused.value) (is_met path before after refused takes)

-- a text with a pattern that may be refused may be a faulty value
pub stops_refused : (e : ConfigError) (path : List ℕ) (matchers : List Matcher) → OneMayBeRefused matchers → IsFault e path → Stops e (MayGive (matchers_met path matchers))
stops_refused Memory path matchers one h = tt
stops_refused (Refused r) path matchers (before, after, refused, is, (takes, may)) h =
    inr (path, refused.value, rw is (is_met path before after refused takes), may, h)
