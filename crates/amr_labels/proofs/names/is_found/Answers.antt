use Rattle.std.proofs.Common.{Ok, Err, sym}
use Rattle.std.specs.Cmp.Lexicographic.{nat_list_cmp_total}
use Rattle.amr_labels.proofs.Searches.{among}
use Rattle.amr_labels.proofs.names.is_found.Goals as goal

pub returns-in-Ok : goal.returns-in-Ok
returns-in-Ok c =
    sym (among nat_list_cmp_total c.args.name.now c.args.names.now (Ok c.in-Ok.field-0) c.requires c.in-Ok.ensures.bound c.in-Ok.ensures.position)

pub returns-in-Err : goal.returns-in-Err
returns-in-Err c =
    sym (among nat_list_cmp_total c.args.name.now c.args.names.now (Err c.in-Err.field-0) c.requires c.in-Err.ensures.bound c.in-Err.ensures.position)
