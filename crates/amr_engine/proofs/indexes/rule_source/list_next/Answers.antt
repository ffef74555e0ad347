use Rattle.std.proofs.Common.{◌+◌, refl, ap}
use Rattle.amr_engine.proofs.IndexesLemmas.Sources.{side_seen, side_same}
use Rattle.amr_engine.proofs.indexes.rule_source.list_next.Goals as goal

pub returns-clause-lists : goal.returns-clause-lists
returns-clause-lists c =
    let put = c.list_source.new.cached in
    side_seen c.args.arrived.now c.args.cached.now put (record put { covered = put.covered + 1 }) c.index-arrived-number.result c.requires.lists c.requires.left
    c.index-arrived-number.is c.in_ok-list_source.ensures.listed c.list_source.ensures.side refl (ap (λ n. n + 1) c.list_source.ensures.covered) refl

pub returns-in_err-list_source-clause-lists : goal.returns-in_err-list_source-clause-lists
returns-in_err-list_source-clause-lists c = side_same c.args.arrived.now c.args.cached.now c.list_source.new.cached c.requires.lists c.in_err-list_source.ensures.err c.list_source.ensures.side c.list_source.ensures.covered
