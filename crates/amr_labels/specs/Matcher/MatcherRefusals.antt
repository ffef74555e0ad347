-- Why matchers aren't made.
use Rattle.std.specs.Prelude.{◌≡◌, List, ◌∷◌, ◌++◌, true, Some, None, chars}
use Rattle.amr_labels.specs.declared.matcher.error.MatcherError.{MatcherError}
use Rattle.amr_labels.specs.declared.matcher.error.MatcherError.TheVariants.{Memory, BadMatcher, BadPattern}
use Rattle.amr_labels.specs.Labels.{Text}
use Rattle.amr_labels.specs.Matcher.Matchers.{Matcher, takes_pattern}
use Rattle.amr_labels.specs.Matcher.Patterns.{MayRefuse}
use Rattle.amr_labels.specs.Matcher.MatcherText.{IsLongest}
use Rattle.amr_labels.specs.Matcher.MatcherReading.{matchers_of}

-- the matcher has a pattern that `regex` may refuse
abbrev pub MayBeRefused : Matcher → Type 0
MayBeRefused matcher = (takes_pattern matcher.operator ≡ true) × MayRefuse matcher.value

abbrev pub OneMayBeRefused : List Matcher → Type 0
OneMayBeRefused matchers = (before after : List Matcher) × (refused : Matcher) × (matchers ≡ before ++ refused ∷ after) × MayBeRefused refused

-- a matcher that is made of its parts has no text to fault: either memory ran out, or its pattern is
-- refused, and then P holds
abbrev pub RefusedOnlyIf : Type 0 → MatcherError → Type 0
RefusedOnlyIf P Memory = Unit {0}
RefusedOnlyIf P (BadMatcher at) = ⊥
RefusedOnlyIf P BadPattern = P

-- a text that isn't a matcher text is refused at the longest prefix with which some matcher text
-- begins; a pattern is refused only in a matcher text
abbrev pub Explains : Text → MatcherError → Type 0
Explains text Memory = Unit {0}
Explains text (BadMatcher at) = (matchers_of text ≡ None) × IsLongest (chars text) at
Explains text BadPattern = (matchers : List Matcher) × (matchers_of text ≡ Some matchers) × OneMayBeRefused matchers
