use Rattle.std.proofs.Common.{map, sym, ap, ◌∙◌}
use Rattle.regex_hir.specs.Meaning.{meaning, cat_all, alt_all, repeat}
use Rattle.regex_hir.proofs.MeaningLemmas.{meaning-Repetition, meaning-Concat, meaning-Alternation}
use Rattle.amr_labels.specs.Matcher.Searches.{without_groups}
use Rattle.amr_labels.proofs.MatcherLemmas.WithoutGroups.{ungrouped_repeat, ungrouped_cat_all, ungrouped_alt_all}
use Rattle.amr_labels.proofs.matcher.ungrouped.+ungrouped.Goals as goal

pub ungrouped-returns-in_ok-new-in-Repetition : goal.ungrouped-returns-in_ok-new-in-Repetition
ungrouped-returns-in_ok-new-in-Repetition t c =
    meaning-Repetition _ _ _ _
    ∙ ap (repeat c.in-Repetition.min c.in-Repetition.max c.in-Repetition.greedy)
    (ap meaning c.in_ok-new-in-Repetition.ensures.ok ∙ c.in_ok-ungrouped-in-Repetition.ensures
    ∙ ap (λ sub. without_groups (meaning sub)) c.deref-in-Repetition.ensures)
    ∙ sym (ap (λ hir. without_groups (meaning hir)) c.in-Repetition.is ∙ ap without_groups (meaning-Repetition _ _ _ _)
    ∙ ungrouped_repeat _ _ _ _)

pub ungrouped-returns-in_ok-all_ungrouped-in-Concat : goal.ungrouped-returns-in_ok-all_ungrouped-in-Concat
ungrouped-returns-in_ok-all_ungrouped-in-Concat t c =
    meaning-Concat _ ∙ ap cat_all c.in_ok-all_ungrouped-in-Concat.ensures
    ∙ ap (λ subs. cat_all (map (λ sub. without_groups (meaning sub)) subs)) c.deref-in-Concat.ensures.value
    ∙ sym (ap (λ hir. without_groups (meaning hir)) c.in-Concat.is ∙ ap without_groups (meaning-Concat _) ∙ ungrouped_cat_all _)

pub ungrouped-returns-in_ok-all_ungrouped-in-Alternation : goal.ungrouped-returns-in_ok-all_ungrouped-in-Alternation
ungrouped-returns-in_ok-all_ungrouped-in-Alternation t c =
    meaning-Alternation _ ∙ ap alt_all c.in_ok-all_ungrouped-in-Alternation.ensures
    ∙ ap (λ subs. alt_all (map (λ sub. without_groups (meaning sub)) subs)) c.deref-in-Alternation.ensures.value
    ∙ sym (ap (λ hir. without_groups (meaning hir)) c.in-Alternation.is ∙ ap without_groups (meaning-Alternation _) ∙ ungrouped_alt_all _)
