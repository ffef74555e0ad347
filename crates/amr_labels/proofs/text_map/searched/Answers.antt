use Rattle.std.proofs.Common.{Ok, Err, sym, rules}
use Rattle.std.specs.Cmp.Lexicographic.{nat_list_cmp_total}
use Rattle.std.proofs.lemmas.Fn.{always_returns_same}
use Rattle.amr_labels.specs.Labels.{Text, text_cmp}
use Rattle.amr_labels.proofs.Searches.{searched}
use Rattle.amr_labels.proofs.text_map.searched.Goals as goal

pub returns-in-Ok : goal.returns-in-Ok
returns-in-Ok c =
    sym (searched nat_list_cmp_total c.args.name.now c.args.pairs.now (Ok c.in-Ok.at) c.requires c.in-Ok.ensures.bound
    (c.in-Ok.ensures.position (λ (pair : Text × Text). text_cmp pair.0 c.args.name.now) (always_returns_same _ _ _ (λ a r f called. (called.met.0, search rules)))) c.index-pairs-at.result)

pub returns-in-Err : goal.returns-in-Err
returns-in-Err c =
    sym (searched nat_list_cmp_total c.args.name.now c.args.pairs.now (Err c.in-Err.field-0) c.requires c.in-Err.ensures.bound
    (c.in-Err.ensures.position (λ (pair : Text × Text). text_cmp pair.0 c.args.name.now) (always_returns_same _ _ _ (λ a r f called. (called.met.0, search rules)))))
