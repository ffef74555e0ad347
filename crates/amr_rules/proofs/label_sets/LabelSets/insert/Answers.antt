use Rattle.std.proofs.Common.{arith}
use Rattle.std.specs.Prelude.{is_ok}
use Rattle.std.proofs.lemmas.Bool.{cond_both}
use Rattle.amr_rules.proofs.SortedSets.{IsInOrder, added_in_order, added_is, is_found, stays}
use Rattle.amr_rules.proofs.label_sets.LabelSets.insert.Goals as goal

pub invariant_of-self : goal.invariant_of-self
invariant_of-self c =
    let bound = rw c.deref.ensures.value at c.in-Err.ensures.bound in
    let position = rw c.deref.ensures.value at c.in-Err.ensures.position in
    rw c.insert.ensures.items
    (cond_both (is_ok c.insert.result) _ _ IsInOrder (λ done. added_in_order c.args.labels c.self.inside.sorted.items c.self.invariant c.in-Err.at bound position) (λ done. c.self.invariant))

pub returns-in_ok-insert-clause-ok : goal.returns-in_ok-insert-clause-ok
returns-in_ok-insert-clause-ok c =
    let bound = rw c.deref.ensures.value at c.in-Err.ensures.bound in
    let position = rw c.deref.ensures.value at c.in-Err.ensures.position in
    grind (arith, added_is c.args.labels c.self.inside.sorted.items c.self.invariant c.in-Err.at bound position, c.in_ok-insert.ensures.items, c.self.view_is)

pub returns-in_default-clause-ok : goal.returns-in_default-clause-ok
returns-in_default-clause-ok c =
    let q = c.args.labels in
    let found = is_found q c.deref.result.now c.binary_search.result (rw c.deref.ensures.value c.self.invariant) c.binary_search.ensures.bound c.binary_search.ensures.position in
    stays c.args.self.now q (grind (arith, found, c.deref.ensures.value, c.self.view_is, c.in_default.is))
