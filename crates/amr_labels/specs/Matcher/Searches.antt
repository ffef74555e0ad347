-- Patterns without their groups, and what searches for a pattern.
use Rattle.std.specs.Prelude.{◌≡◌, ℕ, ◌<◌, get_or, is_some}
use Rattle.regex.specs.Patterns.{Re, empty, literal, byte_in, char_in, look, cat, alt, group, plus, find_str}
use Rattle.regex.specs.Strings.{regex_pattern, matcher_pattern}
use Rattle.regex_meta.specs.Programs.{pattern_of}
use Rattle.amr_labels.specs.Labels.{Text}
use Rattle.amr_labels.specs.Matcher.Patterns.{pattern_matches}
use Rattle.amr_labels.specs.declared.matcher.search.Built.{Built}
use Rattle.amr_labels.specs.declared.matcher.search.Built.TheVariants as built
use Rattle.amr_labels.specs.declared.matcher.search.Search.{Search}
use Rattle.amr_labels.specs.declared.matcher.search.Search.TheVariants as search

-- the pattern, with what each group holds in its place
abbrev pub without_groups : Re → Re
without_groups empty = empty
without_groups (literal bytes) = literal bytes
without_groups (byte_in ranges) = byte_in ranges
without_groups (char_in ranges) = char_in ranges
without_groups (look l) = look l
without_groups (cat a b) = cat (without_groups a) (without_groups b)
without_groups (alt a b) = alt (without_groups a) (without_groups b)
without_groups (group n a) = without_groups a
without_groups (plus greedy a) = plus greedy (without_groups a)

-- it is found in those values that the text of a pattern matches
unfoldable pub IsFoundAs : Re → Text → Type 0
IsFoundAs re pattern = (value : Text) → ((k : ℕ) → get_or value k 0 < 256) → is_some (find_str re value 0) ≡ pattern_matches pattern value

-- what is searched for
abbrev pub built_pattern : Built → Re
built_pattern (built.Whole regex) = regex_pattern regex
built_pattern (built.Bare program) = pattern_of program.value

abbrev pub search_pattern : Search → Re
search_pattern (search.Whole matcher) = matcher_pattern matcher
search_pattern (search.Bare searcher) = pattern_of searcher.program.now
