-- What is cached of patterns: what they answered.
use Rattle.std.specs.Prelude.{◌≡◌}
use Rattle.amr_labels.specs.Matcher.Patterns.{pattern_matches}
use Rattle.amr_labels.specs.declared.matcher.match_cache.CachedMatch.{CachedMatch}

-- the answer is whether the pattern matches the value
abbrev pub IsAnswer : CachedMatch → Type 0
IsAnswer answer = answer.found ≡ pattern_matches answer.pattern answer.value
