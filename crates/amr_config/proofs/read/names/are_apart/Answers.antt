use Rattle.std.proofs.Common.{◌-◌, true, not, arith, sym, ap, subst, ◌∙◌}
use Rattle.std.specs.BTreeSet.{Updates, contains}
use Rattle.amr_labels.specs.Labels.{Text, text_cmp}
use Rattle.amr_config.proofs.ReadLemmas.NameSets.{one_before, still_apart}
use Rattle.amr_config.proofs.read.names.are_apart.Goals as goal

pub loop-index-preserved : goal.loop-index-preserved
loop-index-preserved c =
    let absent = sym (ap (λ (name : Text). not (contains text_cmp c.loop-index.built name)) c.in_ok-clone.ensures.cases) ∙ sym c.in_ok-insert.ensures.added in
    let more = subst (λ (name : Text). Updates text_cmp c.loop-index.built c.insert.new.self name true) c.in_ok-clone.ensures.cases c.in_ok-insert.ensures.updates in
    record {
      apart = still_apart c.args.names.now (c.loop-index.index - 1) c.loop-index.index c.index-names-index.result c.loop-index.built (omega arith) (omega arith)
          c.index-names-index.is c.loop-index.invariant.met (absent ∙ c.if-not-branch.false) c.loop-index.invariant.apart;
      met = one_before c.args.names.now (c.loop-index.index - 1) c.loop-index.index c.index-names-index.result c.loop-index.built c.insert.new.self (omega arith) (omega arith)
          c.index-names-index.is c.loop-index.invariant.met more;
    }
