use Rattle.std.proofs.Common.{sym, ap, ◌∙◌}
use Rattle.std.proofs.lemmas.Map.Views.{tells_apart}
use Rattle.amr_labels.specs.Set as set
use Rattle.amr_labels.specs.Labels.{label_set_cmp-IsAntisymmetric}
use Rattle.amr_rules.proofs.dedup.has.Goals as goal

pub returns-then-eq : goal.returns-then-eq
returns-then-eq c =
    sym (ap (set.contains c.args.label_sets.now) (tells_apart label_set_cmp-IsAntisymmetric c.args.labels.now c.in-Some.next.now (sym c.eq.ensures ∙ c.if-eq.true))
    ∙ rw c.in-Some.is at c.requires)
