use Rattle.std.proofs.Common.{sym, ap, ◌∙◌, subst}
use Rattle.regex_hir.specs.Meaning.{meaning}
use Rattle.regex_hir.specs.declared.hir.Hir.{Hir}
use Rattle.regex_meta.specs.declared.program.Program.{Program}
use Rattle.amr_labels.specs.Matcher.Searches.{IsFoundAs}
use Rattle.amr_labels.proofs.MatcherLemmas.Finds.{ungrouped_is_found}
use Rattle.amr_labels.proofs.matcher.search.bare.Goals as goal

pub returns : goal.returns
returns c = λ pattern source.
    subst (λ (hir : Hir). IsFoundAs (meaning hir) pattern)
    (sym (ap (λ (program : Program). program.hir) c.in_ok-new.ensures.ok ∙ c.in-Ok-new.ensures.pattern))
    (ungrouped_is_found _ _ _ pattern (rw (c.default.ensures, source) at c.in-Ok.ensures.ok) c.in_ok-hir.ensures)
