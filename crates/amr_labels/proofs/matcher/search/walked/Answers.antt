use Rattle.std.proofs.Common.{◌≡◌, ℕ, List, Option, None, length, option_map, sym, ap, ◌∙◌}
use Rattle.regex.specs.Patterns.{span}
use Rattle.regex_vm.specs.Found.{first_match}
use Rattle.regex_meta.specs.Programs.{pattern_of, leftmost}
use Rattle.regex_meta.specs.declared.program.Program.{Program}
use Rattle.regex_meta.proofs.ProgramLemmas.{first_match-leftmost}
use Rattle.amr_labels.proofs.MatcherLemmas.BetweenCharacters.{nothing_found, found_whole}
use Rattle.amr_labels.proofs.matcher.search.walked.Goals as goal

-- what a walk over the whole value finds is what the program searches for
walk_finds : (p : Program) (bytes value : List ℕ) (end : ℕ) (result : Option (ℕ × ℕ)) → bytes ≡ value → end ≡ length value → result ≡ option_map span (first_match p.dfa.nfa bytes end 0 end) → result ≡ option_map span (leftmost p value 0)
walk_finds p bytes value end result text whole found =
    found ∙ (λ i. option_map span (first_match p.dfa.nfa (text i) (whole i) 0 (whole i))) ∙ ap (option_map span) (first_match-leftmost p value 0)

pub returns-in-None : goal.returns-in-None
returns-in-None c =
    let p = c.args.program.now in
    let value = c.args.value.now in
    sym (nothing_found (pattern_of p) value 0 (walk_finds p c.as_bytes-bytes.result.now value _ None c.as_bytes-bytes.ensures.value (ap length c.as_bytes-bytes.ensures.value) (sym c.in-None.is ∙ c.in-Ok.ensures.span)))

pub returns-in-Some : goal.returns-in-Some
returns-in-Some c =
    let p = c.args.program.now in
    let value = c.args.value.now in
    sym (found_whole (pattern_of p) value 0 _ _ (walk_finds p c.as_bytes-bytes.result.now value _ _ c.as_bytes-bytes.ensures.value (ap length c.as_bytes-bytes.ensures.value) (sym c.in-Some.is ∙ c.in-Ok.ensures.span))
    (c.is_char_boundary.ensures.test.0 c.if-is_char_boundary.true))
