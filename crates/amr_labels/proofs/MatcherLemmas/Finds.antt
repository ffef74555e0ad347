-- What is built of a text finds what the grammar reads of it.
use Rattle.std.proofs.Common.{◌≡◌, Bool, false, Option, Some, None, is_some, sym, ap, ◌∙◌, IsSomeAnd, chars}
use Rattle.std.proofs.lemmas.List.{get_or_default}
use Rattle.std.specs.Option.{option_map_or}
use Rattle.regex.specs.Patterns.{Re, find_str, default_config, Reads}
use Rattle.regex.specs.Strings.{regex_pattern}
use Rattle.regex.specs.declared.string.regex.Regex.{Regex}
use Rattle.regex.proofs.OnLiterals.{is_match_as_written}
use Rattle.regex_hir.specs.Meaning.{meaning}
use Rattle.regex_hir.specs.declared.hir.Hir.{Hir}
use Rattle.regex_syntax.specs.Grammar.{Names, read}
use Rattle.regex_syntax.specs.Brackets.{Nested}
use Rattle.regex_syntax.specs.Same.{SameTree}
use Rattle.regex_syntax.proofs.CapturesLemmas.{spans}
use Rattle.regex_syntax.proofs.TreeLaws.{same_refl}
use Rattle.regex_syntax.proofs.Written.{find_str_as_read, is_some-option_map}
use Rattle.amr_labels.specs.Labels.{Text}
use Rattle.amr_labels.specs.Matcher.Patterns.{anchored, pattern_matches, IsBuiltFrom}
use Rattle.amr_labels.specs.Matcher.Searches.{without_groups, IsFoundAs}
use Rattle.amr_labels.proofs.MatcherLemmas.WithoutGroups.{found_alike}

by_found : (o : Option (Nested Re × Names)) (value : Text) (x : Bool) (Q : Nested Re × Names → Type 0) → IsSomeAnd o Q
    → ((re : Re) → IsSomeAnd o (λ (found, _). SameTree found.value re) → x ≡ is_some (find_str re value 0))
    → x ≡ option_map_or (λ (nested, names). is_some (find_str nested.value value 0)) o false
by_found None value x Q q h = absurd q
by_found (Some f) value x Q q h = h f.0.value (same_refl f.0.value)

-- what `regex` built
pub built_is_found : (regex : Regex) (pattern : Text) → IsBuiltFrom regex pattern → IsFoundAs (regex_pattern regex) pattern
unfolding pattern_matches Reads IsFoundAs
built_is_found regex pattern built value bytes =
    by_found (read default_config (chars (anchored pattern))) value (is_some (find_str (regex_pattern regex) value 0)) _ (rw (built.source, built.config) at built.read)
    (λ re as_read. is_match_as_written regex (anchored pattern) re built.source built.config built.read as_read value bytes 0)

-- what the parser read
read_is_found : (hir : Hir) (names : Names) (pattern : Text) → Reads default_config (anchored pattern) hir names → IsFoundAs (meaning hir) pattern
unfolding pattern_matches Reads IsFoundAs
read_is_found hir names pattern reads value bytes =
    by_found (read default_config (chars (anchored pattern))) value (is_some (find_str (meaning hir) value 0)) _ reads
    (λ re as_read. sym (is_some-option_map spans _)
    ∙ ap is_some (find_str_as_read default_config (anchored pattern) hir names re reads as_read value (λ k d h. rw (get_or_default value k d 0 h) (bytes k)) 0)
    ∙ is_some-option_map spans _)

-- the same without its groups
pub ungrouped_is_found : (hir bare : Hir) (names : Names) (pattern : Text) → Reads default_config (anchored pattern) hir names → meaning bare ≡ without_groups (meaning hir) → IsFoundAs (meaning bare) pattern
unfolding IsFoundAs
ungrouped_is_found hir bare names pattern reads is value bytes =
    ap (λ re. is_some (find_str re value 0)) is ∙ found_alike (meaning hir) value ∙ read_is_found hir names pattern reads value bytes
