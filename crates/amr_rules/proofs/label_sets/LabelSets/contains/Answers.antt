use Rattle.std.proofs.Common.{arith}
use Rattle.amr_rules.proofs.SortedSets.{is_found}
use Rattle.amr_rules.proofs.label_sets.LabelSets.contains.Goals as goal

pub returns : goal.returns
returns c =
    let found = is_found c.args.labels.now c.deref.result.now c.binary_search.result (rw c.deref.ensures.value c.self.invariant) c.binary_search.ensures.bound c.binary_search.ensures.position in
    grind (arith, found, c.is_ok.ensures.value, c.deref.ensures.value, c.self.view_is)
