-- Matcher texts: reading is the inverse of spelling.
use Rattle.std.specs.Prelude.{◌≡◌, List, Some, chars}
use Rattle.amr_labels.specs.Labels.{Text}
use Rattle.amr_labels.specs.Matcher.Matchers.{Matcher}
use Rattle.amr_labels.specs.Matcher.MatcherText.{Spells}
use Rattle.amr_labels.specs.Matcher.MatcherReading.{matchers_of}

-- the text spells what was read of it
abbrev pub ReadIsSpelled : Type 0
ReadIsSpelled = (text : Text) (matchers : List Matcher) → matchers_of text ≡ Some matchers → Spells (chars text) matchers

-- what the text spells is read
abbrev pub SpelledIsRead : Type 0
SpelledIsRead = (text : Text) (matchers : List Matcher) → Spells (chars text) matchers → matchers_of text ≡ Some matchers
