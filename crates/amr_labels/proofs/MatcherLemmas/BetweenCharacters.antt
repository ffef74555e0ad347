-- A search of bytes, and the same search of a text, in which nothing is found that begins inside a character.
use Rattle.std.proofs.Common.{◌≡◌, ℕ, ◌+◌, ◌<◌, ◌≤◌, true, false, List, length, Option, Some, None, is_some, option_map, Bool, Decides, true≢false, refl, sym, ap, ap₂, ◌∙◌, subst, arith, IsCharBoundary}
use Rattle.std.proofs.lemmas.Bool.{false_from_ne_true}
use Rattle.regex_hir.specs.Text.{is_boundary}
use Rattle.regex_hir.specs.Find.{find}
use Rattle.regex_meta.specs.Programs.{pattern_of}
use Rattle.regex_meta.specs.declared.program.Program.{Program}
use Rattle.regex_meta.proofs.ProgramLemmas.{none_of_option_map, value_of_option_map}
use Rattle.regex.specs.Patterns.{Re, Match, find_str, span}
use Rattle.regex.proofs.SearchLemmas.{leftmost_none, leftmost_here, leftmost_retry, leftmost_within, inside_char}
use Rattle.regex.proofs.Utf8Lemmas.{IsCharBoundary-of_test, test_of_IsCharBoundary}

-- what a search of bytes finds, in the words of the program and the text with which the loop began
pub found_in : (same program : Program) (bytes hay : List ℕ) (at : ℕ) (result : Option (ℕ × ℕ)) → same ≡ program → bytes ≡ hay
    → result ≡ option_map span (find (pattern_of same) bytes at) → result ≡ option_map span (find (pattern_of program) hay at)
found_in same program bytes hay at result is text found = found ∙ ap₂ (λ p h. option_map span (find (pattern_of p) h at)) is text

module _ (re : Re) (hay : List ℕ) (at : ℕ) where
  pub nothing_found : None ≡ option_map span (find re hay at) → is_some (find_str re hay at) ≡ false
  nothing_found none = ap is_some (leftmost_none re hay true at (none_of_option_map span _ (sym none)))

  module _ (from end : ℕ) (found : Some (from, end) ≡ option_map span (find re hay at)) where
    match_of : (m : Match) × (find re hay at ≡ Some m) × (span m ≡ (from, end))
    match_of = value_of_option_map span (find re hay at) (from, end) (sym found)

    begins : match_of.0.start ≡ from
    begins = ap (λ s. s.0) match_of.2

    pub found_whole : IsCharBoundary hay from → is_some (find_str re hay at) ≡ true
    found_whole whole =
        ap is_some (leftmost_here re hay true at match_of.0 match_of.1
        (λ _. ap (is_boundary hay) begins ∙ test_of_IsCharBoundary hay from whole))

    found_within : (at ≤ from) × (from ≤ length hay)
    found_within = let within = leftmost_within re hay false at match_of.0 match_of.1 in omega (arith, begins)

    found_inside : (IsCharBoundary hay from → ⊥) → (from < length hay) × (find_str re hay at ≡ find_str re hay (from + 1))
    found_inside inside =
        let no_cut = false_from_ne_true (is_boundary hay match_of.0.start) (λ cut. inside (IsCharBoundary-of_test hay from found_within.1 (ap (is_boundary hay) (sym begins) ∙ cut))) in (
          subst (λ i. i < length hay) begins (inside_char re hay match_of.0.start no_cut),
          leftmost_retry re hay true at match_of.0 refl match_of.1 no_cut ∙ ap (λ i. find_str re hay (i + 1)) begins,
        )

-- after what begins inside a character the search of a text goes on
pub goes_on : (same program : Program) (bytes hay : List ℕ) (at from end : ℕ) (whole : Bool) → same ≡ program → bytes ≡ hay
    → Some (from, end) ≡ option_map span (find (pattern_of same) bytes at) → Decides whole (IsCharBoundary hay from) → whole ≡ false
    → (at ≤ from) × (from < length hay) × (find_str (pattern_of program) hay at ≡ find_str (pattern_of program) hay (from + 1))
goes_on same program bytes hay at from end whole is text found test inside =
    let some = found_in same program bytes hay at (Some (from, end)) is text found in
    let later = found_inside (pattern_of program) hay at from end some (λ cut. true≢false (sym (test.1 cut) ∙ inside)) in
    ((found_within (pattern_of program) hay at from end some).0, later.0, later.1)
