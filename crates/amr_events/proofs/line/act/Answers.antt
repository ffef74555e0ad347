use Rattle.std.proofs.Common.{codes, sym, arith}
use Rattle.serde_json.specs.View.{view}
use Rattle.amr_events.proofs.Nesting.{member_nests}
use Rattle.amr_events.proofs.line.act.Goals as goal

pub reload-requires : goal.reload-requires
reload-requires c =
    let nests = member_nests (codes "reload") (view c.args.line.now) (view c.in-Some-get-3.stated.now) (sym c.in-Some-get-3.ensures) in
    omega (arith, nests, c.requires)
